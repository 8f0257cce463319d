use Rattle.explain_mending.specs.Reached.{AreOfBoth}
use Rattle.explain_mending.proofs.reach.add_all_new.Given as goal

abbrev pub invariant-loop-fun : goal.invariant-loop-fun
invariant-loop-fun l = AreOfBoth l.fn.found.items l.funs l.found.items
