-- Weak duality, read at a system.
use Rattle.std.proofs.Common.{◌≡◌, refl, sym, ap, ◌∙◌, subst, ℕ, zero, suc, ◌<◌, length, List, [], ◌∷◌, map, ℤ, pos, ◌*ℤ◌, ◌≤ℤ◌, ◌<ℤ◌, arith}
use Rattle.std.proofs.lemmas.Int.{ints}
use borrow.Author.Differences.{up}
use Rattle.raml_num.specs.Sums.{NoneNegative}
use Rattle.raml_num.proofs.Signed.{natural, lt_mul}
use Rattle.linear_rows.specs.Terms.{SparseRow, Terms}
use Rattle.linear_rows.specs.Systems.{LinearSystem, numbers_from, matrix, right_sides, Solves, Refutes, ProvesLeast, IsLeast}
use Rattle.linear_rows.specs.Vectors.{dot, scale, zeros, mix, AllWide, AtMost}
use Rattle.linear_rows.proofs.Products.{dot-scale, dot-comm, dot-zeros, dual_below}

pub length-numbers : (u n : ℕ) (ts : Terms) → length (numbers_from u n ts) ≡ n
length-numbers u zero ts = refl
length-numbers u (suc n) ts = omega (arith, length-numbers (suc u) n ts)

pub all_wide : (n : ℕ) (rows : List SparseRow) → AllWide n (map (λ row. numbers_from 0 n row.terms) rows)
all_wide n [] = tt
all_wide n (row ∷ rows) = (length-numbers 0 n row.terms, all_wide n rows)

pub scaled_right : (k : ℤ) (xs ys : List ℤ) → dot xs (scale k ys) ≡ k *ℤ dot xs ys
scaled_right k xs ys = dot-comm xs (scale k ys) ∙ dot-scale k ys xs ∙ ap (λ (v : ℤ). k *ℤ v) (dot-comm ys xs)

-- y (t b) is at most c x where x over t solves and y A is at most c
below_cost : (s : LinearSystem) (x y c : List ℤ) (t : ℤ) → Solves s x t → (length y ≡ length s.rows) → NoneNegative y → AtMost (mix s.unknowns y (matrix s)) c → (t *ℤ dot y (right_sides s)) ≤ℤ dot c x
below_cost s x y c t solves ey ny a =
    let h : dot y (scale t (right_sides s)) ≤ℤ dot c x = dual_below s.unknowns (matrix s) (scale t (right_sides s)) c x y (all_wide s.unknowns s.rows) solves.natural ny solves.rows a in
    subst (λ v. v ≤ℤ dot c x) (scaled_right t y (right_sides s)) h

clash : (a b : ℤ) → pos 0 <ℤ a → a ≤ℤ b → b ≡ pos 0 → ⊥
clash a b h k e = omega (arith, ints)

pub positive : (t b : ℤ) → pos 0 <ℤ t → pos 0 <ℤ b → pos 0 <ℤ (t *ℤ b)
positive t b h k =
    let e : t ≡ pos (up t) = natural t (omega (arith, ints)) in
    let u : 0 < up t = omega (arith, ints) in
    let z : pos (up t) *ℤ pos 0 ≡ pos 0 = omega (arith, ints) in
    subst (λ v. pos 0 <ℤ (v *ℤ b)) (sym e) (subst (λ v. v <ℤ (pos (up t) *ℤ b)) z (lt_mul (pos 0) b (up t) u k))

pub no_solution : (s : LinearSystem) (y x : List ℤ) (t : ℤ) → Refutes s y → pos 0 <ℤ t → Solves s x t → ⊥
no_solution s y x t r h solves =
    clash (t *ℤ dot y (right_sides s)) (dot (zeros s.unknowns) x) (positive t (dot y (right_sides s)) h r.right) (below_cost s x y (zeros s.unknowns) t solves r.one_each r.natural r.columns) (dot-zeros s.unknowns x)

pub least : (s : LinearSystem) (x y : List ℤ) (t : ℤ) → ProvesLeast s x y t → IsLeast s x t
least s x y t p = record {
  solves = p.solves;
  least = λ z r rpos other.
      let b : (r *ℤ dot y (right_sides s)) ≤ℤ dot (scale t s.weights) z = below_cost s z y (scale t s.weights) r other p.dual.one_each p.dual.natural p.dual.columns in
      subst (λ v. (r *ℤ v) ≤ℤ (t *ℤ dot s.weights z)) p.equal (subst (λ v. (r *ℤ dot y (right_sides s)) ≤ℤ v) (dot-scale t s.weights z) b);
}
