use Rattle.call_groups.specs.Read.{ids_of}
use Rattle.explain_profile.proofs.Walking.{adds_next}
use Rattle.explain_profile.proofs.reach.add_all_new.Goals as goal

pub loop-fun-preserved : goal.loop-fun-preserved
loop-fun-preserved c =
    adds_next c.args.funs.now c.loop-fun.fun-index _ (ids_of c.args.found.now.items) _ (ids_of c.add_new.new.found.items) c.loop-fun-test.true c.loop-fun.invariant
    c.in_ok-add_new.ensures
