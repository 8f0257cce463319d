use Rattle.std.proofs.Common.{◌≡◌, ◌+◌, ◌-◌, ◌++◌}
use Rattle.index_shift.specs.Tables.{listed}
use Rattle.tuple_ranks.specs.Columns.{up_to}
use Rattle.tuple_ranks.proofs.ranks.Ranks.counts.Given as goal

abbrev pub invariant-loop-g : goal.invariant-loop-g
invariant-loop-g l = l.found.items ++ listed (up_to l.self) l.g (1 + l.self.degree - l.g) ≡ listed (up_to l.self) 0 (1 + l.self.degree)
