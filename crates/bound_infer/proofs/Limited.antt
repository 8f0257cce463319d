-- The system of a task that is made, and the place of one that is not.
use Rattle.std.proofs.Common.{◌≡◌, ap, sym, ◌∙◌, subst}
use Rattle.std.specs.Prelude.{ℕ, ◌↔◌, IsTrue, true, List, slice_get, None, Some}
use Rattle.std.specs.List.{All}
use Rattle.std.proofs.lemmas.Option.{get_or_from_slice_get, slice_get_within}
use Rattle.linear_rows.specs.Terms.{SparseRow}
use Rattle.linear_rows.specs.Systems.{LinearSystem, IsSystem}
use Rattle.cost_free.specs.Task.{Task}
use Rattle.rules_spec.specs.CappedRows.{row_fits}
use Rattle.constraint_gen.specs.Cause.{IsWithin, IsMade, IsCause, LeavesFirst}
use Rattle.constraint_gen.specs.declared.fault.GenFault.{GenFault}
use Rattle.constraint_gen.specs.declared.fault.GenFault.TheVariants as f
use Rattle.constraint_gen.specs.declared.fault.What.{What as TheWhat}
use Rattle.constraint_gen.specs.declared.fault.What.TheVariants as w
use Rattle.infer_spec.specs.States.{State, scale_at}
use Rattle.infer_spec.specs.Generator.{Indices, Analysis, limit_of, limit_at, system_at}
use Rattle.infer_spec.specs.Places.{RowFits, RowLeaves}
use Rattle.infer_spec.specs.Clear.{RowsAreFine}
use Rattle.bound_infer.specs.Told.{what_of}
use Rattle.infer_systems_laws.proofs.FitRows.{row_fits_so, system_row}
use Rattle.bound_infer.proofs.Exceeded.{no_limit, indices, unknowns, rows}

each_fits : (rows : List SparseRow) → All (λ row. row_fits row ≡ true) rows → (place : ℕ) (row : SparseRow) → slice_get rows place ≡ Some row → RowFits row
each_fits rows h place row e = row_fits_so row (subst (λ x. row_fits x ≡ true) (get_or_from_slice_get rows place row row e) (h place row (slice_get_within rows place row e)))

module _ (A : Analysis) (told : (task : Task) → IsTrue (A.generator.within task) ↔ IsWithin A.program A.degree task) (st : State) (task : Task) where
  pub too_many : (IsWithin A.program A.degree task → ⊥) → limit_at A st task ≡ Some Indices
  too_many h = indices A.generator task (system_at A st task) (λ e. h ((told task).0 e))

  pub rows_are_fine : (s : LinearSystem) → IsSystem s → IsMade A.program A.degree st.blocks task (scale_at st.scales task.kind) s → RowsAreFine A st task
  rows_are_fine s system h = record {
    system = subst IsSystem h.is system;
    limit = ap (limit_of A.generator task) (sym h.is) ∙ no_limit A.generator task s ((told task).1 h.indices) h.unknowns h.rows;
    fit = λ place row e. each_fits s.rows h.fit place row (ap (λ (x : LinearSystem). slice_get x.rows place) h.is ∙ e);
  }

  pub made_too_large : (fault : GenFault) (what : TheWhat) → fault ≡ f.TooLarge what → IsCause A.program A.degree st.blocks task (scale_at st.scales task.kind) fault → limit_at A st task ≡ Some (what_of what)
  made_too_large fault what e h = by what (subst (IsCause A.program A.degree st.blocks task (scale_at st.scales task.kind)) e h)
    where
      by : (what : TheWhat) → IsCause A.program A.degree st.blocks task (scale_at st.scales task.kind) (f.TooLarge what) → limit_at A st task ≡ Some (what_of what)
      by w.Indices h = too_many h
      by w.Unknowns h = unknowns A.generator task (system_at A st task) ((told task).1 h.0) h.1
      by w.Rows h = rows A.generator task (system_at A st task) ((told task).1 h.0) h.1 h.2

  first_leaves : (place : ℕ) → LeavesFirst (system_at A st task).rows place → RowLeaves (system_at A st task).rows place
  first_leaves place h = record {
    row = h.row;
    there = h.there;
    leaves = λ fit. h.leaves (system_row A.program A.degree st.blocks task (scale_at st.scales task.kind) place h.row h.there fit);
    before = λ i other l e. row_fits_so other (h.first i other l e);
  }

  pub made_leaves : (fault : GenFault) (row : ℕ) → fault ≡ f.Leaves row → IsCause A.program A.degree st.blocks task (scale_at st.scales task.kind) fault →
      (limit_at A st task ≡ None) × RowLeaves (system_at A st task).rows row
  made_leaves fault row e h = by (subst (IsCause A.program A.degree st.blocks task (scale_at st.scales task.kind)) e h)
    where
      by : IsCause A.program A.degree st.blocks task (scale_at st.scales task.kind) (f.Leaves row) → (limit_at A st task ≡ None) × RowLeaves (system_at A st task).rows row
      by h = (no_limit A.generator task (system_at A st task) ((told task).1 h.0) h.1 h.2, first_leaves row h.3)
