use Rattle.std.proofs.Common.{◌⊎◌, inl, inr}
use Rattle.std.specs.List.{Contains}
use Rattle.std.proofs.lemmas.List.Elements.{All-weaker, All-contains_itself, Contains-get_or}
use Rattle.explain_mending.proofs.Adding.{all_with}
use Rattle.explain_mending.proofs.reach.add_all_new.Goals as goal

pub loop-fun-init : goal.loop-fun-init
loop-fun-init c =
    let found = c.args.found.now.items in
    All-weaker (Contains found) (λ f. Contains found f ⊎ Contains c.args.funs.now f) (λ f h. inl h) found (All-contains_itself found)

pub loop-fun-preserved : goal.loop-fun-preserved
loop-fun-preserved c =
    all_with (λ f. Contains c.args.found.now.items f ⊎ Contains c.args.funs.now f) (Unit {0}) _ c.loop-fun.found.items _ c.loop-fun.invariant
    (λ so. inr (Contains-get_or c.args.funs.now c.loop-fun.fun-index _ c.loop-fun-test.true)) c.in_ok-add_new.ensures
