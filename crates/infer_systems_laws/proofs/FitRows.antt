-- Rows whose numbers are of 128 bits, as a test and as a claim.
use Rattle.std.proofs.Common.{◌≡◌, refl, ap, sym, ◌∙◌, subst, arith}
use Rattle.std.specs.Prelude.{ℕ, zero, suc, ◌+◌, ◌-◌, ◌<◌, ◌≤◌, ◌^◌, ℤ, pos, negsuc, int_le, Bool, true, false, cond, not, ◌&&◌, nat_eq, ◌==◌, if◌then◌else◌, List, [], ◌∷◌, map, filter, slice_get, Some, FitsSigned}
use Rattle.std.specs.List.{list_all, range_with_len}
use Rattle.std.specs.Int.{w128}
use Rattle.std.specs.Ordering.{int_eq}
use Rattle.std.proofs.lemmas.Int.{ints}
use Rattle.std.proofs.lemmas.Option.{none-some, same_Some}
use Rattle.std.proofs.lemmas.Bool.{eqb-true, and_parts}
use Rattle.std.proofs.lemmas.Bool.Decides.{nat_tests}
use Rattle.linear_rows.specs.Terms.{Terms, SparseRow, coefficient}
use Rattle.annot_types.specs.Rows.{Row}
use Rattle.annot_types.specs.Program.{Program}
use Rattle.annot_types.specs.Certificate.{Block}
use Rattle.annot_types.specs.System as s
use Rattle.annot_types.specs.System.{is_kept, system}
use Rattle.cost_free.specs.Task.{Task}
use Rattle.rules_spec.specs.CappedRows.{fits, row_fits}
use Rattle.infer_spec.specs.Places.{RowFits}

pub fits_so : (z : ℤ) → fits z ≡ true → FitsSigned w128 z
fits_so z e = let b = and_parts (int_le (negsuc (2 ^ 127 - 1)) z) (int_le z (pos (2 ^ 127 - 1))) e in grind (arith, ints, b.0, b.1)

pub so_fits : (z : ℤ) → FitsSigned w128 z → fits z ≡ true
so_fits z h = grind (arith, ints, h)

-- the terms of a row, and so its coefficients, fit
terms_fit : (ts : Terms) → list_all (λ (t : ℕ × ℤ). fits t.1) ts ≡ true → (u : ℕ) → FitsSigned w128 (coefficient u ts)
terms_fit [] e u = fits_so (pos 0) refl
terms_fit ((v, z) ∷ ts) e u = by (v == u) (terms_fit ts (and_parts (fits z) _ e).1 u) where
  by : (b : Bool) → FitsSigned w128 (coefficient u ts) → FitsSigned w128 (if b then z else coefficient u ts)
  by true h = fits_so z (and_parts (fits z) _ e).0
  by false h = h

pub row_fits_so : (row : SparseRow) → row_fits row ≡ true → RowFits row
row_fits_so row e =
    let both = and_parts (list_all (λ (t : ℕ × ℤ). fits t.1) row.terms) (fits row.right) e in
    record { terms = terms_fit row.terms both.0; right = fits_so row.right both.1 }

-- Terms that are made of coefficients.
module _ (g : ℕ → ℤ) where
  abbrev keeps : ℕ × ℤ → Bool
  keeps t = not (int_eq t.1 (pos 0))

  abbrev made : ℕ → ℕ → Terms
  made from n = filter keeps (map (λ u. (u, g u)) (range_with_len from n))

  none_there : (from n u : ℕ) → u < from → coefficient u (made from n) ≡ pos 0
  none_there from zero u low = refl
  none_there from (suc n) u low = by (keeps (from, g from)) (none_there (from + 1) n u (omega (arith, low))) where
    other : (from == u) ≡ false
    other = grind (arith, nat_tests, low)

    by : (b : Bool) → coefficient u (made (from + 1) n) ≡ pos 0 → coefficient u (cond b ((from, g from) ∷ made (from + 1) n) (made (from + 1) n)) ≡ pos 0
    by true h = ap (λ b. if b then g from else coefficient u (made (from + 1) n)) other ∙ h
    by false h = h

  coefficient_is : (from n u : ℕ) → from ≤ u → u < from + n → coefficient u (made from n) ≡ g u
  coefficient_is from zero u low high = absurd (omega (arith, low, high))
  coefficient_is from (suc n) u low high = by (nat_eq from u) refl (λ l. coefficient_is (from + 1) n u l (omega (arith, high))) where
    zero_is : (z : ℤ) → not (int_eq z (pos 0)) ≡ false → z ≡ pos 0
    zero_is z e = grind (arith, ints, nat_tests, e)

    first : (b : Bool) → keeps (from, g from) ≡ b → from ≡ u → coefficient u (cond b ((from, g from) ∷ made (from + 1) n) (made (from + 1) n)) ≡ g u
    first true k e = let is : (from == u) ≡ true = grind (arith, nat_tests, e) in ap (λ b. if b then g from else coefficient u (made (from + 1) n)) is ∙ ap g e
    first false k e = none_there (from + 1) n u (omega (arith, e)) ∙ sym (zero_is (g from) k) ∙ ap g e

    later : (b : Bool) → (from ≡ u → ⊥) → coefficient u (made (from + 1) n) ≡ g u → coefficient u (cond b ((from, g from) ∷ made (from + 1) n) (made (from + 1) n)) ≡ g u
    later true k h = let is : (from == u) ≡ false = grind (arith, nat_tests, k) in ap (λ b. if b then g from else coefficient u (made (from + 1) n)) is ∙ h
    later false k h = h

    by : (b : Bool) → nat_eq from u ≡ b → (from + 1 ≤ u → coefficient u (made (from + 1) n) ≡ g u) → coefficient u (made from (suc n)) ≡ g u
    by true e go = first (keeps (from, g from)) refl (eqb-true from u e)
    by false e go =
        let other : from ≡ u → ⊥ = grind (arith, nat_tests, e) in
        later (keeps (from, g from)) other (go (omega (arith, low, other)))

  all_fit : (from n : ℕ) → ((u : ℕ) → from ≤ u → u < from + n → fits (g u) ≡ true) → list_all (λ (t : ℕ × ℤ). fits t.1) (made from n) ≡ true
  all_fit from zero h = refl
  all_fit from (suc n) h = by (keeps (from, g from)) (all_fit (from + 1) n (λ u l m. h u (omega (arith, l)) (omega (arith, m)))) where
    by : (b : Bool) → list_all (λ (t : ℕ × ℤ). fits t.1) (made (from + 1) n) ≡ true →
        list_all (λ (t : ℕ × ℤ). fits t.1) (cond b ((from, g from) ∷ made (from + 1) n) (made (from + 1) n)) ≡ true
    by true k = (λ i. h from (omega arith) (omega arith) i && list_all (λ (t : ℕ × ℤ). fits t.1) (made (from + 1) n)) ∙ k
    by false k = k

  pub so_row_fits : (n : ℕ) (row : SparseRow) → row.terms ≡ made 0 n → RowFits row → row_fits row ≡ true
  so_row_fits n row e h =
      (λ i. list_all (λ (t : ℕ × ℤ). fits t.1) (e i) && fits row.right)
      ∙ (λ i. all_fit 0 n (λ u l m. so_fits (g u) (subst (FitsSigned w128) (ap (coefficient u) e ∙ coefficient_is 0 n u l m) (h.terms u))) i && so_fits row.right h.right i)

-- The rows of a task's system are such.
module _ (P : Program) (d : ℕ) (earlier : List Block) (task : Task) (scale : ℕ) where
  abbrev count : ℕ
  count = (s.at_zero P d earlier task scale).1

  made_of : (p : SparseRow → Bool) (k : ℕ) (rs : List Row) (i : ℕ) (row : SparseRow) → slice_get (filter p (s.sparse_rows P d earlier task scale k rs)) i ≡ Some row →
      (place : ℕ) × (row.terms ≡ made (s.coefficient P d earlier task scale place) 0 count)
  made_of p k [] i row e = absurd (none-some row e)
  made_of p k (r ∷ rs) i row e = by (p (record { terms = s.terms P d earlier task scale k; right = r.right })) i e (made_of p (k + 1) rs) where
    by : (b : Bool) (i : ℕ) →
        slice_get (cond b (record { terms = s.terms P d earlier task scale k; right = r.right } ∷ filter p (s.sparse_rows P d earlier task scale (k + 1) rs)) (filter p (s.sparse_rows P d earlier task scale (k + 1) rs))) i ≡ Some row →
        ((i : ℕ) (row : SparseRow) → slice_get (filter p (s.sparse_rows P d earlier task scale (k + 1) rs)) i ≡ Some row → (place : ℕ) × (row.terms ≡ made (s.coefficient P d earlier task scale place) 0 count)) →
        (place : ℕ) × (row.terms ≡ made (s.coefficient P d earlier task scale place) 0 count)
    by true zero e go = (k, ap (λ (x : SparseRow). x.terms) (sym (same_Some _ row e)))
    by true (suc i) e go = go i row e
    by false i e go = go i row e

  pub system_row : (i : ℕ) (row : SparseRow) → slice_get (system P d earlier task scale).rows i ≡ Some row → RowFits row → row_fits row ≡ true
  system_row i row e h =
      let m = made_of is_kept 0 (s.at_zero P d earlier task scale).0 i row e in
      so_row_fits (s.coefficient P d earlier task scale m.0) count row m.1 h
