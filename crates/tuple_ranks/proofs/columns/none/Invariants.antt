use Rattle.std.proofs.Common.{◌≡◌, ◌+◌, ◌-◌, ◌++◌, []}
use Rattle.index_shift.specs.Tables.{listed}
use Rattle.tuple_ranks.specs.Columns.{count}
use Rattle.tuple_ranks.proofs.columns.none.Given as goal

abbrev pub invariant-loop-g : goal.invariant-loop-g
invariant-loop-g l = l.counts.items ++ listed (count []) l.g (1 + l.d - l.g) ≡ listed (count []) 0 (1 + l.d)
