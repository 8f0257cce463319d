-- Lists of checks from one place on.
use Rattle.std.proofs.Common.{◌≡◌, refl, sym, ap, subst, ℕ, zero, suc, ◌+◌, ◌-◌, ◌<◌, length, List, [], ◌∷◌, get_or, drop, ℤ, pos, neg_ℤ, ◌*ℤ◌, arith}
use Rattle.std.proofs.lemmas.List.{drop_all}
use Rattle.linear_rows.specs.Terms.{SparseRow}
use Rattle.linear_rows.specs.Systems.{IsBelow, AllBelow}
use Rattle.farkas_check.specs.Totals.{products}
use Rattle.farkas_check.specs.Checks.{NotAbove, column, refuting_columns, solving_row, solving_rows, dual_columns}
use Rattle.farkas_check.proofs.Unrolling.{cut}

pub columns_next : (u n : ℕ) (rows : List SparseRow) (y : List ℤ) → u < n
    → refuting_columns u (n - u) rows y ≡ record { column = u; demand = NotAbove; terms = products y (column u rows) } ∷ refuting_columns (u + 1) (n - (u + 1)) rows y
columns_next u n rows y h =
    let e : n - u ≡ suc (n - (u + 1)) = omega arith in
    let s : suc u ≡ u + 1 = omega arith in
    rw e (ap (λ (v : ℕ). record { column = u; demand = NotAbove; terms = products y (column u rows) } ∷ refuting_columns v (n - (u + 1)) rows y) s)

pub columns_end : (u n : ℕ) (rows : List SparseRow) (y : List ℤ) → u ≡ n → refuting_columns u (n - u) rows y ≡ []
columns_end u n rows y h = let e : n - u ≡ zero = omega arith in rw e refl

pub columns_start : (n : ℕ) (rows : List SparseRow) (y : List ℤ) → refuting_columns 0 (n - 0) rows y ≡ refuting_columns 0 n rows y
columns_start n rows y = let e : n - 0 ≡ n = omega arith in ap (λ (v : ℕ). refuting_columns 0 v rows y) e

pub dual_next : (u : ℕ) (w : List ℤ) (rows : List SparseRow) (y : List ℤ) (t : ℤ) → u < length w
    → dual_columns u (drop u w) rows y t ≡ record { column = u; demand = NotAbove; terms = neg_ℤ (t *ℤ get_or w u (pos 0)) ∷ products y (column u rows) } ∷ dual_columns (u + 1) (drop (u + 1) w) rows y t
dual_next u w rows y t h =
    let s : suc u ≡ u + 1 = omega arith in
    rw (cut w u (pos 0) h) (ap (λ (v : ℕ). record { column = u; demand = NotAbove; terms = neg_ℤ (t *ℤ get_or w u (pos 0)) ∷ products y (column u rows) } ∷ dual_columns v (drop (u + 1) w) rows y t) s)

pub dual_end : (u : ℕ) (w : List ℤ) (rows : List SparseRow) (y : List ℤ) (t : ℤ) → u ≡ length w → dual_columns u (drop u w) rows y t ≡ []
dual_end u w rows y t h = rw (drop_all u w (omega arith)) refl

pub rows_next : (n : ℕ) (x : List ℤ) (t : ℤ) (rows : List SparseRow) (i : ℕ) (r : SparseRow) → i < length rows → r ≡ get_or rows i r
    → solving_rows n x t (drop i rows) ≡ solving_row n x t r ∷ solving_rows n x t (drop (i + 1) rows)
rows_next n x t rows i r h e = rw (cut rows i r h) (ap (λ (v : SparseRow). solving_row n x t v ∷ solving_rows n x t (drop (i + 1) rows)) (sym e))

pub below_at : (n : ℕ) (rows : List SparseRow) (i : ℕ) (r : SparseRow) → AllBelow n rows → i < length rows → r ≡ get_or rows i r → IsBelow n r
below_at n [] i r a h e = absurd (omega arith)
below_at n (q ∷ rows) zero r a h e = subst (IsBelow n) (sym e) a.0
below_at n (q ∷ rows) (suc i) r a h e = below_at n rows i r a.1 (omega arith) e
