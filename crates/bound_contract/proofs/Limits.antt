-- A task whose system exceeds no limit.
use Rattle.std.proofs.Common.{◌≡◌, subst, arith}
use Rattle.std.specs.Prelude.{ℕ, true, List, slice_get, Some, None}
use Rattle.std.specs.List.{All}
use Rattle.std.proofs.lemmas.Option.{get_or_from_slice_get, slice_get_within}
use Rattle.linear_rows.specs.Terms.{SparseRow}
use Rattle.linear_rows.specs.Systems.{LinearSystem}
use Rattle.cost_free.specs.Task.{Task}
use Rattle.annot_types.specs.Program.{Program}
use Rattle.annot_types.specs.Certificate.{Block}
use Rattle.annot_types.specs.System.{system}
use Rattle.rules_spec.specs.CappedRows.{row_fits}
use Rattle.constraint_gen.specs.Cause.{IsWithin, IsCause, LeavesFirst}
use Rattle.constraint_gen.specs.declared.fault.GenFault.TheVariants.{TooLarge}
use Rattle.constraint_gen.specs.declared.fault.What.{What}
use Rattle.constraint_gen.specs.declared.fault.What.TheVariants.{Indices, Unknowns, Rows}
use Rattle.infer_spec.specs.Generator.{limit_of}
use Rattle.infer_spec.specs.Places.{RowFits, RowLeaves}
use Rattle.infer_systems_laws.specs.Analysed.{generator_of}
use Rattle.infer_systems_laws.specs.Laws.{LimitsAreTold}
use Rattle.infer_systems_laws.proofs.Below.{StaysBelow, stays_below}
use Rattle.infer_systems_laws.proofs.FitRows.{row_fits_so, system_row}

-- the rows of a system that is made fit
pub each_fits : (rows : List SparseRow) → All (λ row. row_fits row ≡ true) rows → (place : ℕ) (row : SparseRow) → slice_get rows place ≡ Some row → RowFits row
each_fits rows h place row e = row_fits_so row (subst (λ x. row_fits x ≡ true) (get_or_from_slice_get rows place row row e) (h place row (slice_get_within rows place row e)))

module _ (told : LimitsAreTold) (P : Program) (d : ℕ) (earlier : List Block) (task : Task) (scale : ℕ) (none : limit_of (generator_of P d) task (system P d earlier task scale) ≡ None) where
  abbrev S : LinearSystem
  S = system P d earlier task scale

  below : StaysBelow (generator_of P d) task S
  below = stays_below (generator_of P d) task S none

  pub is_within : IsWithin P d task
  is_within = (told P d task).0 below.within

  pub never_too_large : (what : What) → IsCause P d earlier task scale (TooLarge what) → ⊥
  never_too_large Indices h = h is_within
  never_too_large Unknowns h = (let low = below.unknowns in let high = h.1 in omega (arith, low, high))
  never_too_large Rows h = (let low = below.rows in let high = h.2 in omega (arith, low, high))

-- the first row that is told to leave leaves first
pub first_leaves : (P : Program) (d : ℕ) (earlier : List Block) (task : Task) (scale place : ℕ) →
    LeavesFirst (system P d earlier task scale).rows place → RowLeaves (system P d earlier task scale).rows place
first_leaves P d earlier task scale place h = record {
  row = h.row;
  there = h.there;
  leaves = λ fit. h.leaves (system_row P d earlier task scale place h.row h.there fit);
  before = λ i other l e. row_fits_so other (h.first i other l e);
}
