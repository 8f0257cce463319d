use Rattle.std.proofs.Common.{take}
use Rattle.cost_free.specs.Walk.{Stands}
use Rattle.cost_free.specs.Read.{plan_of, outcomes_of, place_of}
use Rattle.cost_free.proofs.schedule.follow.Given as goal

abbrev pub invariant-loop-entry : goal.invariant-loop-entry
invariant-loop-entry l = Stands (plan_of l.plan) (outcomes_of (take l.entry-index l.done)) (place_of l.walk)
