use Rattle.std.proofs.Common.{◌≡◌, ◌+◌, drop}
use Rattle.index_shift.specs.Tables.{how_many}
use Rattle.index_shift.proofs.tables.count.Given as goal

abbrev pub invariant-loop-g : goal.invariant-loop-g
invariant-loop-g l = l.n + how_many l.r (drop l.g-index l.degrees) ≡ how_many l.r l.degrees
