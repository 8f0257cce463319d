use Rattle.std.proofs.Common.{◌≡◌, ◌≤◌, ◌+◌, drop}
use Rattle.index_shift.specs.Tables.{how_many}
use Rattle.constraint_gen.proofs.task.how_many.Given as goal

abbrev pub invariant-loop-other : goal.invariant-loop-other
invariant-loop-other l = (l.count + how_many l.degree (drop l.other-index l.degrees) ≡ how_many l.degree l.degrees) × (l.count ≤ l.other-index)
