use Rattle.std.proofs.Common.{◌≡◌, ◌+◌, ◌-◌, ◌++◌, slice_index_or}
use Rattle.base_poly.specs.Base.{total}
use Rattle.index_shift.specs.Tables.{fits, listed}
use Rattle.tuple_ranks.proofs.columns.totals.Given as goal

abbrev pub invariant-loop-g : goal.invariant-loop-g
invariant-loop-g l = l.found.items ++ listed (λ g. total (fits (λ r. slice_index_or l.numbers r 0) g) l.degrees) l.g (1 + l.d - l.g) ≡ listed (λ g. total (fits (λ r. slice_index_or l.numbers r 0) g) l.degrees) 0 (1 + l.d)
