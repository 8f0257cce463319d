-- What it means that each check's demand is met.
use Rattle.std.proofs.Common.{◌≡◌, refl, sym, ap, ◌∙◌, subst, ◌↔◌, ℕ, zero, suc, length, List, [], ◌∷◌, ◌++◌, map, ℤ, pos, neg_ℤ, ◌+ℤ◌, ◌*ℤ◌, ◌≤ℤ◌, ◌<ℤ◌, arith}
use Rattle.std.proofs.lemmas.Int.{ints}
use Rattle.raml_num.specs.Sums.{total, NoneNegative}
use Rattle.linear_rows.specs.Terms.{SparseRow, coefficient}
use Rattle.linear_rows.specs.Systems.{LinearSystem, numbers_from, right_sides, Refutes, ProvesLeast}
use Rattle.linear_rows.specs.Vectors.{dot, scale, plus, zeros, mix, times, AtMost}
use Rattle.farkas_check.specs.Totals.{products}
use Rattle.farkas_check.specs.Checks.{Check, column, refuting_columns, refuting, solving_rows, dual_columns, proving_least}
use Rattle.farkas_check.proofs.Firsts.{EachMeets}

pub total_products : (xs ys : List ℤ) → total (products xs ys) ≡ dot xs ys
total_products [] ys = refl
total_products (x ∷ xs) [] = refl
total_products (x ∷ xs) (y ∷ ys) = ap (λ (v : ℤ). x *ℤ y +ℤ v) (total_products xs ys)

rows_from : ℕ → ℕ → List SparseRow → List (List ℤ)
rows_from u n rows = map (λ row. numbers_from u n row.terms) rows

-- the products of y and each column
dots : ℕ → ℕ → List ℤ → List SparseRow → List ℤ
dots u zero y rows = []
dots u (suc n) y rows = dot y (column u rows) ∷ dots (suc u) n y rows

dots-nil : (u n : ℕ) (rows : List SparseRow) → zeros n ≡ dots u n [] rows
unfolding dots
dots-nil u zero rows = refl
dots-nil u (suc n) rows = ap (λ (v : List ℤ). pos 0 ∷ v) (dots-nil (suc u) n rows)

dots-none : (u n : ℕ) (y : ℤ) (ys : List ℤ) → zeros n ≡ dots u n (y ∷ ys) []
unfolding dots
dots-none u zero y ys = refl
dots-none u (suc n) y ys = ap (λ (v : List ℤ). pos 0 ∷ v) (dots-none (suc u) n y ys)

dots-plus : (u n : ℕ) (y : ℤ) (ys : List ℤ) (row : SparseRow) (rows : List SparseRow) → plus (scale y (numbers_from u n row.terms)) (dots u n ys rows) ≡ dots u n (y ∷ ys) (row ∷ rows)
unfolding dots
dots-plus u zero y ys row rows = refl
dots-plus u (suc n) y ys row rows = ap (λ (v : List ℤ). (y *ℤ coefficient u row.terms +ℤ dot ys (column u rows)) ∷ v) (dots-plus (suc u) n y ys row rows)

-- a combination of the rows has these products
mix-dots : (u n : ℕ) (y : List ℤ) (rows : List SparseRow) → mix n y (rows_from u n rows) ≡ dots u n y rows
unfolding rows_from
mix-dots u n [] rows = dots-nil u n rows
mix-dots u n (y ∷ ys) [] = dots-none u n y ys
mix-dots u n (y ∷ ys) (row ∷ rows) = ap (plus (scale y (numbers_from u n row.terms))) (mix-dots u n ys rows) ∙ dots-plus u n y ys row rows

both : (A B C D : Type 0) → (A ↔ B) → (C ↔ D) → (A × C ↔ B × D)
both A B C D f g = (λ p. (f.0 p.0, g.0 p.1), λ p. (f.1 p.0, g.1 p.1))

joined : (ks ls : List Check) → (EachMeets (ks ++ ls) ↔ EachMeets ks × EachMeets ls)
joined [] ls = (λ p. (tt, p), λ p. p.1)
joined (k ∷ ks) ls = let h = joined ks ls in (λ p. let q = h.0 p.1 in ((p.0, q.0), q.1), λ p. (p.0.0, h.1 (p.0.1, p.1)))

-- totals and their sums
same_at_most : (b c : ℤ) → b ≡ c → (b ≤ℤ pos 0 ↔ c ≤ℤ pos 0)
same_at_most b c e = (λ h. omega (arith, ints), λ h. omega (arith, ints))

same_more : (b c : ℤ) → b ≡ c → (pos 0 <ℤ b ↔ pos 0 <ℤ c)
same_more b c e = (λ h. omega (arith, ints), λ h. omega (arith, ints))

less_at_most : (a b c : ℤ) → b ≡ c → ((neg_ℤ a +ℤ b) ≤ℤ pos 0 ↔ c ≤ℤ a)
less_at_most a b c e = (λ h. omega (arith, ints), λ h. omega (arith, ints))

less_at_least : (a b c : ℤ) → b ≡ c → (pos 0 ≤ℤ (neg_ℤ a +ℤ b) ↔ a ≤ℤ c)
less_at_least a b c e = (λ h. omega (arith, ints), λ h. omega (arith, ints))

level : (z a b : ℤ) → z ≡ a +ℤ neg_ℤ b → (z ≡ pos 0 ↔ a ≡ b)
level z a b e = (λ h. omega (arith, ints), λ h. omega (arith, ints))

-- y A is at most 0
not_above : (u n : ℕ) (rows : List SparseRow) (y : List ℤ) → (EachMeets (refuting_columns u n rows y) ↔ AtMost (dots u n y rows) (zeros n))
unfolding dots
not_above u zero rows y = (λ p. p, λ p. p)
not_above u (suc n) rows y = both _ _ _ _ (same_at_most _ _ (total_products y (column u rows))) (not_above (suc u) n rows y)

-- y A is at most t c
dual_at_most : (u : ℕ) (w : List ℤ) (rows : List SparseRow) (y : List ℤ) (t : ℤ) → (EachMeets (dual_columns u w rows y t) ↔ AtMost (dots u (length w) y rows) (scale t w))
unfolding dots
dual_at_most u [] rows y t = (λ p. p, λ p. p)
dual_at_most u (c ∷ w) rows y t = both _ _ _ _ (less_at_most (t *ℤ c) _ _ (total_products y (column u rows))) (dual_at_most (suc u) w rows y t)

-- A x is at least t b
rows_at_least : (n : ℕ) (x : List ℤ) (t : ℤ) (rows : List SparseRow) → (EachMeets (solving_rows n x t rows) ↔ AtMost (scale t (map (λ row. row.right) rows)) (times (rows_from 0 n rows) x))
unfolding rows_from
rows_at_least n x t [] = (λ p. p, λ p. p)
rows_at_least n x t (row ∷ rows) = both _ _ _ _ (less_at_least (t *ℤ row.right) _ _ (total_products (numbers_from 0 n row.terms) x)) (rows_at_least n x t rows)

total-append : (xs ys : List ℤ) → total (xs ++ ys) ≡ total xs +ℤ total ys
total-append [] ys = omega (arith, ints)
total-append (x ∷ xs) ys = let h : total (xs ++ ys) ≡ total xs +ℤ total ys = total-append xs ys in omega (arith, ints)

total-neg : (xs : List ℤ) → total (map neg_ℤ xs) ≡ neg_ℤ (total xs)
total-neg [] = refl
total-neg (x ∷ xs) = let h : total (map neg_ℤ xs) ≡ neg_ℤ (total xs) = total-neg xs in omega (arith, ints)

difference : (xs ys : List ℤ) (a b : ℤ) → total xs ≡ a → total ys ≡ b → total (xs ++ map neg_ℤ ys) ≡ a +ℤ neg_ℤ b
difference xs ys a b e f =
    let g : total (xs ++ map neg_ℤ ys) ≡ total xs +ℤ total (map neg_ℤ ys) = total-append xs (map neg_ℤ ys) in
    let h : total (map neg_ℤ ys) ≡ neg_ℤ (total ys) = total-neg ys in
    omega (arith, ints)

-- each demand of `refuting` is met exactly where y refutes
pub refutes_met : (s : LinearSystem) (y : List ℤ) → length y ≡ length s.rows → NoneNegative y → (EachMeets (refuting s y) ↔ Refutes s y)
unfolding rows_from
refutes_met s y e n =
    let j = joined (refuting_columns 0 s.unknowns s.rows y) _ in
    let m = mix-dots 0 s.unknowns y s.rows in
    let columns = not_above 0 s.unknowns s.rows y in
    let right = same_more _ _ (total_products y (right_sides s)) in (
      λ p. let q = j.0 p in record {
        one_each = e;
        natural = n;
        columns = subst (λ v. AtMost v (zeros s.unknowns)) (sym m) (columns.0 q.0);
        right = right.0 q.1.0;
      },
      λ r. j.1 (columns.1 (subst (λ v. AtMost v (zeros s.unknowns)) m r.columns), (right.1 r.right, tt)),
    )

-- and each of `proving_least` where x solves, y is dual and the sums are equal
pub least_met : (s : LinearSystem) (x y : List ℤ) (t : ℤ) → length s.weights ≡ s.unknowns → length x ≡ s.unknowns → length y ≡ length s.rows → NoneNegative x → NoneNegative y → pos 0 <ℤ t
    → (EachMeets (proving_least s x y t) ↔ ProvesLeast s x y t)
unfolding rows_from
least_met s x y t w ex ey nx ny positive =
    let i = joined (solving_rows s.unknowns x t s.rows) _ in
    let j = joined (dual_columns 0 s.weights s.rows y t) _ in
    let m = mix-dots 0 s.unknowns y s.rows in
    let rows = rows_at_least s.unknowns x t s.rows in
    let columns = subst (λ n. EachMeets (dual_columns 0 s.weights s.rows y t) ↔ AtMost (dots 0 n y s.rows) (scale t s.weights)) w (dual_at_most 0 s.weights s.rows y t) in
    let sums = level _ _ _ (difference (products y (right_sides s)) (products s.weights x) _ _ (total_products y (right_sides s)) (total_products s.weights x)) in (
      λ p. let q = i.0 p in let r = j.0 q.1 in record {
        positive = positive;
        solves = record { one_each = ex; natural = nx; rows = rows.0 q.0 };
        dual = record { one_each = ey; natural = ny; columns = subst (λ v. AtMost v (scale t s.weights)) (sym m) (columns.0 r.0) };
        equal = sums.0 r.1.0;
      },
      λ h. i.1 (rows.1 h.solves.rows, j.1 (columns.1 (subst (λ v. AtMost v (scale t s.weights)) m h.dual.columns), (sums.1 h.equal, tt))),
    )
