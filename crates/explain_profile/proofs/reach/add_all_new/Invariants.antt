use Rattle.std.proofs.Common.{take}
use Rattle.call_groups.specs.Read.{ids_of}
use Rattle.explain_profile.specs.Walk.{AddsAll}
use Rattle.explain_profile.proofs.reach.add_all_new.Given as goal

abbrev pub invariant-loop-fun : goal.invariant-loop-fun
invariant-loop-fun l = AddsAll (ids_of (take l.fun-index l.funs)) (ids_of l.fn.found.items) (ids_of l.found.items)
