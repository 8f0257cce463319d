-- What the rows stand for after a pivot.
use Rattle.std.proofs.Common.{◌≡◌, refl, sym, subst, ◌∙◌, ℕ, ◌<◌, ℤ, ◌*ℤ◌, arith, List, length, inl, inr}
use Rattle.frac128.specs.declared.Frac.{Frac}
use Rattle.frac128.specs.Values.{IsQuotient}
use Rattle.simplex_rows.specs.Entries.{Entries, at}
use Rattle.simplex_rows.specs.Sweeping.{IsSwept}
use Rattle.simplex_spec.specs.Places as places
use Rattle.simplex_spec.specs.Places.{row_at, swept}
use Rattle.simplex_spec.specs.Tableaux.{Tableau, pivot, sweep}
use Rattle.simplex_spec.proofs.Rows.{at-scale, at-swept, wide_at}
use Rattle.simplex_spec.proofs.Pivoting.{same_or_not, length_after, lead_after, row_after}
use Rattle.simplex_spec.proofs.Ending.{Good}
use Rattle.simplex_spec.proofs.Opening.{width}
use Rattle.linear_rows.specs.Systems.{LinearSystem}
use Rattle.linear_rows.specs.Vectors.{scale}
use Rattle.simplex.specs.Standing.{Stands, RowStands, RowsStand, RowsSwept, entries_at}
use Rattle.simplex.proofs.Lifting.{quotient_stands, lead_stands, less_stands}

-- a number under another name
stands_as : (d e n m : ℤ) (x : Frac) → d ≡ e → n ≡ m → Stands d n x → Stands e m x
stands_as d e n m x f g s = record { is = rw (← f, ← g) s.is }

module _ (s : LinearSystem) (t : Tableau) (g : Good s t) (l c : ℕ) (inside : l < length t.rows) where
  -- the lead over its number at c
  pub lead_over : (es lead : Entries) → RowStands t.over (row_at t.rows l) es → ((k : ℕ) → IsQuotient (at k es) (at c es) (at k lead)) → (k : ℕ) → Stands (places.at (row_at t.rows l) c) (places.at (row_at t.rows l) k) (at k lead)
  lead_over es lead r q k = quotient_stands t.over (places.at (row_at t.rows l) k) (places.at (row_at t.rows l) c) (at k es) (at c es) (at k lead) (r.each k) (r.each c) (q k)

  pub swept_stands : (row : List ℤ) (es new lead : Entries) → length row ≡ length (row_at t.rows l) → RowStands t.over row es → ((k : ℕ) → Stands (places.at (row_at t.rows l) c) (places.at (row_at t.rows l) k) (at k lead)) → IsSwept c lead es new
      → RowStands (t.over *ℤ places.at (row_at t.rows l) c) (sweep c (row_at t.rows l) row) new
  swept_stands row es new lead wide r over sw = record {
    each = λ k.
        let lead_row : List ℤ = row_at t.rows l in
        stands_as _ _ _ _ (at k new) refl (sym (at-swept (places.at lead_row c) (places.at row c) row lead_row k wide))
        (less_stands t.over (places.at lead_row c) (places.at row k) (places.at row c) (places.at lead_row k) (at k es) (at c es) (at k lead) (at k new) (r.each k) (r.each c) (over k) (sw.each k));
  }

  pub rows_stand : (old new : List Entries) (lead : Entries) → RowsStand t old → ((k : ℕ) → Stands (places.at (row_at t.rows l) c) (places.at (row_at t.rows l) k) (at k lead)) → RowsSwept l c lead old new → RowsStand (pivot l c t) new
  rows_stand old new lead r over sw =
      let lead_row : List ℤ = row_at t.rows l in
      record {
        count = sw.count ∙ r.count ∙ sym (length_after t l c inside);
        each = λ i h. let h' : i < length t.rows = (let q = length_after t l c inside in omega arith) in elim (same_or_not i l) [
          | inl e ↦ subst (λ (z : ℕ). RowStands (pivot l c t).over (row_at (pivot l c t).rows z) (entries_at new z)) (sym e)
              (subst (λ (row : List ℤ). RowStands (pivot l c t).over row (entries_at new l)) (sym (lead_after t l c inside))
              (subst (λ (es : Entries). RowStands (pivot l c t).over (scale t.over lead_row) es) (sym sw.here)
              (record { each = λ k. stands_as _ _ _ _ (at k lead) refl (sym (at-scale t.over lead_row k)) (lead_stands t.over (places.at lead_row c) (places.at lead_row k) (at k lead) (over k)) })))
          | inr n ↦ subst (λ (row : List ℤ). RowStands (pivot l c t).over row (entries_at new i)) (sym (row_after t l c inside i h' n))
              (swept_stands (row_at t.rows i) (entries_at old i) (entries_at new i) lead (wide_at (width s) i t.rows g.sound.wide h' ∙ sym (wide_at (width s) l t.rows g.sound.wide inside)) (r.each i h') over (sw.others i (let q = r.count in omega arith) n))
        ];
      }
