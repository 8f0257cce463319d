-- Where the search for the exiting row looks, in small systems.
use Rattle.std.proofs.Common.{◌≡◌, ◌≢◌, refl, sym, ap, subst, ◌∙◌, ℕ, zero, suc, ◌<◌, pos, ◌<ℤ◌, arith, List, [], ◌∷◌, ◌++◌, length, drop, get_or, ◌⊎◌, inl, inr}
use Rattle.std.proofs.lemmas.Int.{ints}
use Rattle.linear_rows.specs.Vectors.{scale}
use Rattle.simplex_spec.specs.Places.{at, row_at, at_each}
use Rattle.simplex_spec.specs.Tableaux.{Tableau, opening, LexAtMost, IsLeastRow}
use Rattle.simplex_spec.specs.Refusals.{IsCompared}
use Rattle.simplex_spec.specs.Example.{two_rows, one_sum, Searches}

none_is_some : (xs ys : List ℕ) (b : ℕ) → [] ≡ xs ++ b ∷ ys → ⊥
none_is_some [] ys b e = let h : 0 ≡ suc (length ys) = ap length e in absurd (omega arith)
none_is_some (x ∷ xs) ys b e = let h : 0 ≡ suc (length (xs ++ b ∷ ys)) = ap length e in absurd (omega arith)

-- what stands before the second of three columns, and before the third
before_second : (a b c : ℕ) (xs ys : List ℕ) → a ≢ b → c ≢ b → a ∷ b ∷ c ∷ [] ≡ xs ++ b ∷ ys → xs ≡ a ∷ []
before_second a b c [] ys p q e = absurd (p (ap (λ (v : List ℕ). get_or v 0 0) e))
before_second a b c (x ∷ []) ys p q e = ap (λ (v : ℕ). v ∷ []) (sym (ap (λ (v : List ℕ). get_or v 0 0) e))
before_second a b c (x ∷ y ∷ []) ys p q e = absurd (q (ap (λ (v : List ℕ). get_or v 2 0) e))
before_second a b c (x ∷ y ∷ z ∷ xs) ys p q e = absurd (none_is_some xs ys b (ap (λ (v : List ℕ). drop 3 v) e))

before_third : (a b c : ℕ) (xs ys : List ℕ) → a ≢ c → b ≢ c → a ∷ b ∷ c ∷ [] ≡ xs ++ c ∷ ys → xs ≡ a ∷ b ∷ []
before_third a b c [] ys p q e = absurd (p (ap (λ (v : List ℕ). get_or v 0 0) e))
before_third a b c (x ∷ []) ys p q e = absurd (q (ap (λ (v : List ℕ). get_or v 1 0) e))
before_third a b c (x ∷ y ∷ []) ys p q e =
    let h : a ≡ x = ap (λ (v : List ℕ). get_or v 0 0) e in
    let k : b ≡ y = ap (λ (v : List ℕ). get_or v 1 0) e in
    rw (h, k) refl
before_third a b c (x ∷ y ∷ z ∷ xs) ys p q e = absurd (none_is_some xs ys c (ap (λ (v : List ℕ). drop 3 v) e))

four_two : ◌≢◌ {A = ℕ} 4 2
four_two h = absurd (omega (arith, h))

three_two : ◌≢◌ {A = ℕ} 3 2
three_two h = absurd (omega (arith, h))

one_two : ◌≢◌ {A = ℕ} 1 2
one_two h = absurd (omega (arith, h))

one_zero : ◌≢◌ {A = ℕ} 1 0
one_zero h = absurd (omega (arith, h))

-- no quotient is looked at where the columns before leave no other row
alone : (t : Tableau) (e i a : ℕ) (more before : List ℕ) → before ≡ a ∷ more → ((before ≡ []) ⊎ ((m : ℕ) × (m ≢ i) × IsLeastRow before e t m))
    → ((m : ℕ) → m ≢ i → IsLeastRow (a ∷ more) e t m → ⊥) → ⊥
alone t e i a more before is (inl n) none = let h : suc (length more) ≡ 0 = ap length (sym is ∙ n) in absurd (omega arith)
alone t e i a more before is (inr w) none = none w.0 w.1 (subst (λ (cs : List ℕ). IsLeastRow cs e t w.0) is w.2)

six_above_two : (pos 6 <ℤ pos 2) ⊎ ((pos 6 ≡ pos 2) × Unit {0}) → ⊥
six_above_two (inl h) = absurd (omega (arith, ints))
six_above_two (inr q) = let h = q.0 in absurd (omega (arith, ints))

second_is_not_least : IsLeastRow (4 ∷ []) 0 (opening two_rows) 1 → ⊥
second_is_not_least w =
    let inside : 0 < 2 = omega arith in
    let positive : pos 0 <ℤ pos 2 = omega (arith, ints) in
    six_above_two (w.least 0 inside positive)

no_other : (m : ℕ) → m ≢ 0 → IsLeastRow (4 ∷ []) 0 (opening two_rows) m → ⊥
no_other m n w =
    let inside : m < 2 = w.inside in
    let one : m ≡ 1 = omega arith in
    second_is_not_least (subst (λ (k : ℕ). IsLeastRow (4 ∷ []) 0 (opening two_rows) k) one w)

decided : IsCompared (4 ∷ 2 ∷ 3 ∷ []) (opening two_rows) 0 0 2 → ⊥
decided w =
    alone (opening two_rows) 0 0 4 [] w.before (before_second 4 2 3 w.before w.after four_two three_two w.is_next) w.another no_other

lost : IsCompared (4 ∷ 2 ∷ 3 ∷ []) (opening two_rows) 0 1 2 → ⊥
lost w =
    second_is_not_least (subst (λ (cs : List ℕ). IsLeastRow cs 0 (opening two_rows) 1) (before_second 4 2 3 w.before w.after four_two three_two w.is_next) w.tied)

-- by the right sides of one_sum both rows are least
least_by_right : (i : ℕ) → i < 2 → IsLeastRow (3 ∷ []) 0 (opening one_sum) i
least_by_right zero h = record { inside = h; positive = (let p : pos 0 <ℤ pos 1 = omega (arith, ints) in p); least = each }
  where
    each : (m : ℕ) → m < 2 → pos 0 <ℤ at (row_at (opening one_sum).rows m) 0
        → LexAtMost (scale (at (row_at (opening one_sum).rows m) 0) (pos 1 ∷ [])) (scale (pos 1) (at_each (row_at (opening one_sum).rows m) (3 ∷ [])))
    each zero k p = inr (refl, tt)
    each (suc zero) k p = inr (refl, tt)
    each (suc (suc m)) k p = absurd (omega arith)
least_by_right (suc zero) h = record { inside = h; positive = (let p : pos 0 <ℤ pos 1 = omega (arith, ints) in p); least = each }
  where
    each : (m : ℕ) → m < 2 → pos 0 <ℤ at (row_at (opening one_sum).rows m) 0
        → LexAtMost (scale (at (row_at (opening one_sum).rows m) 0) (pos 1 ∷ [])) (scale (pos 1) (at_each (row_at (opening one_sum).rows m) (3 ∷ [])))
    each zero k p = inr (refl, tt)
    each (suc zero) k p = inr (refl, tt)
    each (suc (suc m)) k p = absurd (omega arith)
least_by_right (suc (suc i)) h = absurd (omega arith)

tied : IsCompared (3 ∷ 1 ∷ 2 ∷ []) (opening one_sum) 0 0 1
tied =
    let zeroth : 0 < 2 = omega arith in
    let first : 1 < 2 = omega arith in
    record { before = 3 ∷ []; after = 2 ∷ []; is_next = refl; tied = least_by_right 0 zeroth; another = inr (1, one_zero, least_by_right 1 first) }

ones : (pos 1 <ℤ pos 1) ⊎ ((pos 1 ≡ pos 1) × ((pos 1 <ℤ pos 0) ⊎ ((pos 1 ≡ pos 0) × Unit {0}))) → ⊥
ones (inl h) = absurd (omega (arith, ints))
ones (inr (e, inl h)) = absurd (omega (arith, ints))
ones (inr (e, inr q)) = let h = q.0 in absurd (omega (arith, ints))

no_other_sum : (m : ℕ) → m ≢ 1 → IsLeastRow (3 ∷ 1 ∷ []) 0 (opening one_sum) m → ⊥
no_other_sum m n w =
    let inside : m < 2 = w.inside in
    let none : m ≡ 0 = omega arith in
    let v = subst (λ (k : ℕ). IsLeastRow (3 ∷ 1 ∷ []) 0 (opening one_sum) k) none w in
    let first : 1 < 2 = omega arith in
    let positive : pos 0 <ℤ pos 1 = omega (arith, ints) in
    ones (v.least 1 first positive)

found : IsCompared (3 ∷ 1 ∷ 2 ∷ []) (opening one_sum) 0 1 2 → ⊥
found w =
    alone (opening one_sum) 0 1 3 (1 ∷ []) w.before (before_third 3 1 2 w.before w.after three_two one_two w.is_next) w.another no_other_sum

right_side : IsCompared (4 ∷ 2 ∷ 3 ∷ []) (opening two_rows) 0 0 4
right_side = record {
  before = [];
  after = 2 ∷ 3 ∷ [];
  is_next = refl;
  tied = record { inside = (let h : 0 < 2 = omega arith in h); positive = (let p : pos 0 <ℤ pos 2 = omega (arith, ints) in p); least = λ m h p. tt };
  another = inl refl;
}

pub searches : Searches
searches = record { right_side = right_side; decided = decided; lost = lost; tied = tied; found = found }
