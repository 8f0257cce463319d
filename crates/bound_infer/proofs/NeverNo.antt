-- What refutes a system is never refused for a demand that is not met.
use Rattle.std.proofs.Common.{◌≡◌, refl, ap, ◌∙◌, subst, ℕ, zero, suc, List, [], ◌∷◌, ◌++◌, map, ℤ, pos, ◌+ℤ◌, ◌*ℤ◌, ◌≤ℤ◌, ◌<ℤ◌, arith, inl, inr}
use Rattle.std.proofs.lemmas.Int.{ints}
use Rattle.raml_num.specs.Sums.{total}
use Rattle.linear_rows.specs.Terms.{SparseRow, coefficient}
use Rattle.linear_rows.specs.Systems.{numbers_from, right_sides}
use Rattle.linear_rows.specs.Vectors.{dot, scale, plus, zeros, mix, AtMost}
use Rattle.farkas_check.specs.declared.Verdict.TheVariants.{No}
use Rattle.farkas_check.specs.Checks.{Check, Meets, IsFirstFault, column, refuting_columns, refuting}
use Rattle.farkas_check.proofs.Meaning.{total_products}
use Rattle.infer_spec.specs.Laws.{NeverNo}

-- the products of y and each column from this one on
abbrev dots : ℕ → ℕ → List ℤ → List SparseRow → List ℤ
dots u zero y rows = []
dots u (suc n) y rows = dot y (column u rows) ∷ dots (suc u) n y rows

dots_nil : (u n : ℕ) (rows : List SparseRow) → zeros n ≡ dots u n [] rows
dots_nil u zero rows = refl
dots_nil u (suc n) rows = ap (λ (v : List ℤ). pos 0 ∷ v) (dots_nil (suc u) n rows)

dots_none : (u n : ℕ) (y : ℤ) (ys : List ℤ) → zeros n ≡ dots u n (y ∷ ys) []
dots_none u zero y ys = refl
dots_none u (suc n) y ys = ap (λ (v : List ℤ). pos 0 ∷ v) (dots_none (suc u) n y ys)

dots_plus : (u n : ℕ) (y : ℤ) (ys : List ℤ) (row : SparseRow) (rows : List SparseRow) →
    plus (scale y (numbers_from u n row.terms)) (dots u n ys rows) ≡ dots u n (y ∷ ys) (row ∷ rows)
dots_plus u zero y ys row rows = refl
dots_plus u (suc n) y ys row rows = ap (λ (v : List ℤ). (y *ℤ coefficient u row.terms +ℤ dot ys (column u rows)) ∷ v) (dots_plus (suc u) n y ys row rows)

-- a combination of the rows has these products
mix_dots : (u n : ℕ) (y : List ℤ) (rows : List SparseRow) → mix n y (map (λ row. numbers_from u n row.terms) rows) ≡ dots u n y rows
mix_dots u n [] rows = dots_nil u n rows
mix_dots u n (y ∷ ys) [] = dots_none u n y ys
mix_dots u n (y ∷ ys) (row ∷ rows) = ap (plus (scale y (numbers_from u n row.terms))) (mix_dots u n ys rows) ∙ dots_plus u n y ys row rows

abbrev EachMeets : List Check → Type 0
EachMeets [] = Unit {0}
EachMeets (k ∷ ks) = Meets k.demand (total k.terms) × EachMeets ks

both_meet : (ks ls : List Check) → EachMeets ks → EachMeets ls → EachMeets (ks ++ ls)
both_meet [] ls h g = g
both_meet (k ∷ ks) ls h g = (h.0, both_meet ks ls h.1 g)

at_most : (b c : ℤ) → b ≡ c → c ≤ℤ pos 0 → b ≤ℤ pos 0
at_most b c e h = omega (arith, ints)

more : (b c : ℤ) → b ≡ c → pos 0 <ℤ c → pos 0 <ℤ b
more b c e h = omega (arith, ints)

columns_meet : (u n : ℕ) (rows : List SparseRow) (y : List ℤ) → AtMost (dots u n y rows) (zeros n) → EachMeets (refuting_columns u n rows y)
columns_meet u zero rows y h = tt
columns_meet u (suc n) rows y h = (at_most _ _ (total_products y (column u rows)) h.0, columns_meet (suc u) n rows y h.1)

none_not_met : (ks : List Check) (c : ℕ) → EachMeets ks → IsFirstFault ks (No c) → ⊥
none_not_met [] c h f = f
none_not_met (k ∷ ks) c h (inl f) = f.2 h.0
none_not_met (k ∷ ks) c h (inr f) = none_not_met ks c h.1 f.1

pub never_no : NeverNo
never_no s y c r f = none_not_met (refuting s y) c
    (both_meet (refuting_columns 0 s.unknowns s.rows y) _
    (columns_meet 0 s.unknowns s.rows y (subst (λ v. AtMost v (zeros s.unknowns)) (mix_dots 0 s.unknowns y s.rows) r.columns))
    (more _ _ (total_products y (right_sides s)) r.right, tt)) f
