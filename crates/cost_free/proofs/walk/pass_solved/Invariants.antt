use Rattle.std.proofs.Common.{◌≡◌, ◌-◌, drop, length}
use Rattle.cost_free.specs.Walk.{open_from}
use Rattle.cost_free.specs.Read.{tasks_of}
use Rattle.cost_free.proofs.walk.pass_solved.Given as goal

abbrev pub invariant-loop-place : goal.invariant-loop-place
invariant-loop-place l = open_from l.solved.keys (tasks_of (drop l.place l.tasks)) ≡ open_from l.solved.keys (tasks_of (drop l.fn.place l.tasks))

abbrev pub decreases-loop-place : goal.decreases-loop-place
decreases-loop-place l = length l.tasks - l.place
