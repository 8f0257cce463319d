use Rattle.std.proofs.Common.{◌≡◌, ◌+◌, ◌-◌, ◌++◌}
use Rattle.index_shift.specs.Tables.{how_many, listed}
use Rattle.index_shift.proofs.tables.tally.Given as goal

abbrev pub invariant-loop-r : goal.invariant-loop-r
invariant-loop-r l = l.found.items ++ listed (λ r. how_many r l.degrees) l.r (1 + l.d - l.r) ≡ listed (λ r. how_many r l.degrees) 0 (1 + l.d)
