-- Rows behind those of a system, and rows that bound unknowns.
use Rattle.std.proofs.Common.{◌≡◌, refl, sym, ◌∙◌, arith, subst}
use Rattle.std.specs.Prelude.{ℕ, zero, suc, ◌+◌, ◌*◌, ◌<◌, ◌≤◌, nat_eq, Bool, true, false, ℤ, pos, neg_ℤ, ◌+ℤ◌, ◌*ℤ◌, ◌≤ℤ◌, List, [], ◌∷◌, ◌++◌, map, length}
use Rattle.std.specs.List.{range_with_len}
use Rattle.std.proofs.lemmas.Int.{ints}
use Rattle.std.proofs.lemmas.Bool.Decides.{nat_tests}
use Rattle.raml_num.proofs.Differences.{diff, diff-pos, diff-mul, diff_same}
use Rattle.linear_rows.specs.Terms.{SparseRow, coefficient}
use Rattle.linear_rows.specs.Vectors.{dot, scale, times, AtMost}
use Rattle.linear_rows.specs.Systems.{LinearSystem, IsSystem, IsBelow, AllBelow, numbers_from}
use Rattle.annot_types.specs.System.{is_kept}
use Rattle.rules_spec.specs.Told.{number_in}
use Rattle.bound_file.specs.Lines.{Coefficient, numerator_at, denominator_at}
use Rattle.bound_contract.specs.System.{at_most, line_rows, with_rows}

first_none : (y : ℕ) (z : ℤ) → pos 0 *ℤ pos y +ℤ z ≡ z
first_none y z = let none : pos 0 *ℤ pos y ≡ pos 0 = grind (arith, ints) in omega (arith, ints, none)

rest_none : (y : ℤ) → y +ℤ pos 0 ≡ y
rest_none y = omega (arith, ints)

-- the product of a row that has one term
none_before : (k n u : ℕ) (z : ℤ) (x : List ℕ) → u < k → dot (numbers_from k n ((u, z) ∷ [])) (map pos x) ≡ pos 0
none_before k zero u z x h = refl
none_before k (suc n) u z [] h = refl
none_before k (suc n) u z (y ∷ x) h =
    let none : coefficient k ((u, z) ∷ []) ≡ pos 0 = grind (arith, nat_tests, h) in
    (λ i. none i *ℤ pos y +ℤ none_before (suc k) n u z x (omega (arith, h)) i) ∙ first_none y (pos 0)

one_from : (k n i : ℕ) (z : ℤ) (x : List ℕ) → length x ≡ n → dot (numbers_from k n ((k + i, z) ∷ [])) (map pos x) ≡ z *ℤ pos (number_in x i)
one_from k zero i z [] e = grind (arith, ints)
one_from k zero i z (y ∷ x) e = absurd (omega (arith, e))
one_from k (suc n) i z [] e = absurd (omega (arith, e))
one_from k (suc n) zero z (y ∷ x) e =
    let this : coefficient k ((k + 0, z) ∷ []) ≡ z = grind (arith, nat_tests) in
    (λ i. this i *ℤ pos y +ℤ none_before (suc k) n (k + 0) z x (omega arith) i) ∙ rest_none (z *ℤ pos y)
one_from k (suc n) (suc i) z (y ∷ x) e =
    let none : coefficient k ((k + suc i, z) ∷ []) ≡ pos 0 = grind (arith, nat_tests) in
    let next : suc k + i ≡ k + suc i = omega arith in
    let rest = subst (λ u. dot (numbers_from (suc k) n ((u, z) ∷ [])) (map pos x) ≡ z *ℤ pos (number_in x i)) next (one_from (suc k) n i z x (omega (arith, e))) in
    (λ j. none j *ℤ pos y +ℤ rest j) ∙ first_none y (z *ℤ pos (number_in x i))

pub one_term : (n u : ℕ) (z : ℤ) (x : List ℕ) → length x ≡ n → dot (numbers_from 0 n ((u, z) ∷ [])) (map pos x) ≡ z *ℤ pos (number_in x u)
one_term n u z x e = subst (λ v. dot (numbers_from 0 n ((v, z) ∷ [])) (map pos x) ≡ z *ℤ pos (number_in x u)) (let s : 0 + u ≡ u = omega arith in s) (one_from 0 n u z x e)

-- Signs

minus_is : (n : ℕ) → neg_ℤ (pos n) ≡ diff 0 n
unfolding diff
minus_is n = omega (arith, ints)

times_minus : (a b : ℕ) → pos a *ℤ neg_ℤ (pos b) ≡ neg_ℤ (pos (a * b))
times_minus a b = (λ i. diff-pos a i *ℤ minus_is b i) ∙ diff-mul a 0 0 b ∙ diff_same (a * 0 + 0 * b) (a * b + 0 * 0) 0 (a * b) (grind arith) ∙ sym (minus_is (a * b))

minus_times : (a b : ℕ) → neg_ℤ (pos a) *ℤ pos b ≡ neg_ℤ (pos (a * b))
minus_times a b = (λ i. minus_is a i *ℤ diff-pos b i) ∙ diff-mul 0 a b 0 ∙ diff_same (0 * b + a * 0) (0 * 0 + a * b) 0 (a * b) (grind arith) ∙ sym (minus_is (a * b))

turned : (a b : ℕ) → neg_ℤ (pos a) ≤ℤ neg_ℤ (pos b) → b ≤ a
turned a b h = omega (arith, ints)

turned_back : (a b : ℕ) → b ≤ a → neg_ℤ (pos a) ≤ℤ neg_ℤ (pos b)
turned_back a b h = omega (arith, ints)

-- a row that bounds an unknown is met by numbers over t where the unknown's number is so bounded
module _ (n u a m s t : ℕ) (x : List ℕ) (e : length x ≡ n) where
  left : pos t *ℤ neg_ℤ (pos (a * s)) ≡ neg_ℤ (pos (t * (a * s)))
  left = times_minus t (a * s)

  right : dot (numbers_from 0 n (at_most u a m s).terms) (map pos x) ≡ neg_ℤ (pos (m * number_in x u))
  right = one_term n u (neg_ℤ (pos m)) x e ∙ minus_times m (number_in x u)

  turns : t * (a * s) ≡ a * (s * t)
  turns = grind arith

  changes : m * number_in x u ≡ number_in x u * m
  changes = grind arith

  pub row_bounds : (pos t *ℤ (at_most u a m s).right) ≤ℤ dot (numbers_from 0 n (at_most u a m s).terms) (map pos x) → number_in x u * m ≤ a * (s * t)
  row_bounds h =
      let low = turned (t * (a * s)) (m * number_in x u) (subst (λ v. v ≤ℤ neg_ℤ (pos (m * number_in x u))) left (subst (λ v. (pos t *ℤ neg_ℤ (pos (a * s))) ≤ℤ v) right h)) in
      omega (arith, low, turns, changes)

  pub bounds_row : number_in x u * m ≤ a * (s * t) → (pos t *ℤ (at_most u a m s).right) ≤ℤ dot (numbers_from 0 n (at_most u a m s).terms) (map pos x)
  bounds_row h =
      let low = turned_back (t * (a * s)) (m * number_in x u) (omega (arith, h, turns, changes)) in
      subst (λ v. (pos t *ℤ neg_ℤ (pos (a * s))) ≤ℤ v) (sym right) (subst (λ v. v ≤ℤ neg_ℤ (pos (m * number_in x u))) (sym left) low)

-- Rows that are met

abbrev pub Met : ℕ → ℤ → List ℤ → List SparseRow → Type 0
Met n t x rows = AtMost (scale t (map (λ (r : SparseRow). r.right) rows)) (times (map (λ (r : SparseRow). numbers_from 0 n r.terms) rows) x)

pub met_front : (n : ℕ) (t : ℤ) (x : List ℤ) (rows more : List SparseRow) → Met n t x (rows ++ more) → Met n t x rows
met_front n t x [] more h = tt
met_front n t x (r ∷ rows) more h = (h.0, met_front n t x rows more h.1)

pub met_back : (n : ℕ) (t : ℤ) (x : List ℤ) (rows more : List SparseRow) → Met n t x (rows ++ more) → Met n t x more
met_back n t x [] more h = h
met_back n t x (r ∷ rows) more h = met_back n t x rows more h.1

pub met_both : (n : ℕ) (t : ℤ) (x : List ℤ) (rows more : List SparseRow) → Met n t x rows → Met n t x more → Met n t x (rows ++ more)
met_both n t x [] more h k = k
met_both n t x (r ∷ rows) more h k = (h.0, met_both n t x rows more h.1 k)

-- those of a declared bound
module _ (bound : List Coefficient) (first s n t : ℕ) (x : List ℕ) (e : length x ≡ n) where
  abbrev rows_from : ℕ → ℕ → List SparseRow
  rows_from from count = map (λ k. at_most (first + k) (numerator_at bound k) (denominator_at bound k) s) (range_with_len from count)

  abbrev pub IsBounded : ℕ → Type 0
  IsBounded k = number_in x (first + k) * denominator_at bound k ≤ numerator_at bound k * (s * t)

  bounded_from : (from count : ℕ) → Met n (pos t) (map pos x) (rows_from from count) → (k : ℕ) → from ≤ k → k < from + count → IsBounded k
  bounded_from from zero h k l u = absurd (omega (arith, l, u))
  bounded_from from (suc count) h k l u = by (nat_eq k from) refl (bounded_from (from + 1) count h.1 k) where
    by : (b : Bool) → nat_eq k from ≡ b → (from + 1 ≤ k → k < from + 1 + count → IsBounded k) → IsBounded k
    by true q rest = subst IsBounded (let same : from ≡ k = grind (arith, nat_tests, q) in same) (row_bounds n (first + from) (numerator_at bound from) (denominator_at bound from) s t x e h.0)
    by false q rest = rest (grind (arith, nat_tests, q, l)) (omega (arith, u))

  met_from : (from count : ℕ) → ((k : ℕ) → from ≤ k → k < from + count → IsBounded k) → Met n (pos t) (map pos x) (rows_from from count)
  met_from from zero h = tt
  met_from from (suc count) h = (
    bounds_row n (first + from) (numerator_at bound from) (denominator_at bound from) s t x e (h from (omega arith) (omega arith)),
    met_from (from + 1) count (λ k l u. h k (omega (arith, l)) (omega (arith, u))),
  )

  pub line_bounded : (count : ℕ) → Met n (pos t) (map pos x) (line_rows bound first count s) → (k : ℕ) → k < count → IsBounded k
  line_bounded count h k u = bounded_from 0 count h k (omega arith) (omega (arith, u))

  pub line_met : (count : ℕ) → ((k : ℕ) → k < count → IsBounded k) → Met n (pos t) (map pos x) (line_rows bound first count s)
  line_met count h = met_from 0 count (λ k l u. h k (omega (arith, u)))

-- No row is left out, and all speak of a system's unknowns.

pub needed : (unknown numerator denominator scale : ℕ) → 0 < denominator → is_kept (at_most unknown numerator denominator scale) ≡ true
needed unknown numerator zero scale h = absurd (omega (arith, h))
needed unknown numerator (suc m) scale h = refl

pub term_below : (n u a m s : ℕ) → u < n → IsBelow n (at_most u a m s)
term_below n u a m s h v l = grind (arith, nat_tests, h, l)

all_below : (n : ℕ) (bound : List Coefficient) (first s from count : ℕ) → ((k : ℕ) → k < from + count → first + k < n) →
    AllBelow n (map (λ k. at_most (first + k) (numerator_at bound k) (denominator_at bound k) s) (range_with_len from count))
all_below n bound first s from zero h = tt
all_below n bound first s from (suc count) h = (
  term_below n (first + from) (numerator_at bound from) (denominator_at bound from) s (h from (omega arith)),
  all_below n bound first s (from + 1) count (λ k l. h k (omega (arith, l))),
)

both_below : (n : ℕ) (rows more : List SparseRow) → AllBelow n rows → AllBelow n more → AllBelow n (rows ++ more)
both_below n [] more h k = k
both_below n (r ∷ rows) more h k = (h.0, both_below n rows more h.1 k)

pub more_is_system : (s : LinearSystem) (bound : List Coefficient) (first count scale : ℕ) → IsSystem s → ((k : ℕ) → k < count → first + k < s.unknowns) →
    IsSystem (with_rows s (line_rows bound first count scale))
more_is_system s bound first count scale h low = record {
  below = both_below s.unknowns s.rows (line_rows bound first count scale) h.below (all_below s.unknowns bound first scale 0 count (λ k l. low k (omega (arith, l))));
  one_each = h.one_each;
  natural = h.natural;
}
