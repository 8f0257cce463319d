use Rattle.std.proofs.Common.{◌≡◌, ◌<◌, ℕ, Some, slice_get}
use Rattle.linear_rows.specs.Terms.{SparseRow}
use Rattle.constraint_gen.proofs.finish.first_none.Given as goal

abbrev pub invariant-loop-place : goal.invariant-loop-place
invariant-loop-place l = (k : ℕ) → k < l.place → (row : SparseRow) × (slice_get l.rows k ≡ Some (Some row))
