-- Capped sums of unknowns and their rows.
use Rattle.std.proofs.Common.{◌≡◌, refl, ap, sym, ◌∙◌, arith, subst, inl, inr}
use Rattle.std.specs.Prelude.{ℕ, zero, suc, ◌+◌, ◌*◌, ◌-◌, ◌^◌, ◌<◌, ◌≤◌, ◌⊎◌, Bool, true, false, cond, not, ◌&&◌, int_le, ℤ, pos, ◌-ℤ◌, ◌≤ℤ◌, negsuc, ◌∷◌, map, filter, Some, None}
use Rattle.std.specs.List.{range_with_len, list_all}
use Rattle.std.specs.Ordering.{int_eq}
use Rattle.std.proofs.lemmas.Int.{ints}
use Rattle.std.proofs.lemmas.Bool.{and_parts}
use Rattle.rules_spec.proofs.Solving.{is_zero}
use Rattle.rules_spec.proofs.Capping.{cap_times as capped_times}
use Rattle.linear_rows.specs.Terms.{Terms, SparseRow}
use Rattle.rules_spec.specs.Numbers.{Carries, Condition}
use Rattle.rules_spec.specs.Kinds.{Form, forms}
use Rattle.rules_spec.specs.Capped.{cap}
use Rattle.rules_spec.specs.Solving.{row_of}
use Rattle.rules_spec.proofs.Given.{given_carry}
use Rattle.rules_spec.specs.CappedRows.{capped_form, capped_forms, capped_totals, fits, row_fits, RowsAgree, CappedRows}
use Rattle.rules_spec.specs.Sure.{IsSure}

pub cap_times : (n a : ℕ) → cap (n * a) ≡ cap (n * cap a)
cap_times = capped_times

pub both_true : (a b : Bool) → (a && b) ≡ true → (a ≡ true) × (b ≡ true)
both_true = and_parts

pub same_form : (f g : Form) → ((u : ℕ) → f.terms u ≡ g.terms u) → f.plus ≡ g.plus → f.minus ≡ g.minus → f ≡ g
same_form f g t p m = λ i. record { terms = λ u. t u i; plus = p i; minus = m i }

pub cap_plus : (a b : ℕ) → cap (a + b) ≡ cap (cap a + cap b)
cap_plus a b = omega arith

either_side : (a : ℕ) → (a ≤ 2 ^ 128 - 1) ⊎ (2 ^ 128 - 1 ≤ a)
either_side a = grind arith

carries : Carries forms capped_forms capped_form
carries = record {
  none = same_form _ _ (λ u. omega arith) (omega arith) (omega arith);
  plus = λ x y. same_form _ _ (λ u. cap_plus (x.terms u) (y.terms u)) (cap_plus x.plus y.plus) (cap_plus x.minus y.minus);
  times = λ n x. same_form _ _ (λ u. cap_times n (x.terms u)) (cap_times n x.plus) (cap_times n x.minus);
  number = λ n. same_form _ _ (λ u. omega arith) refl (omega arith);
  less = λ n x. same_form _ _ (λ u. refl) refl (omega arith);
}

-- two numbers that are equal, or both too great, or both too small
Alike : ℤ → ℤ → Type 0
Alike a b = (a ≡ b) ⊎ (((pos (2 ^ 127) ≤ℤ a) × (pos (2 ^ 127) ≤ℤ b)) ⊎ ((a ≤ℤ negsuc (2 ^ 127)) × (b ≤ℤ negsuc (2 ^ 127))))

-- two numbers that are equal, or both past the greatest
abbrev SameOrGreat : ℕ → ℕ → Type 0
SameOrGreat a b = (a ≡ b) ⊎ ((2 ^ 128 - 1 ≤ a) × (2 ^ 128 - 1 ≤ b))

alike_diff : (l r m s : ℕ) → SameOrGreat l m → r ≡ s → r < 2 ^ 127 → Alike (pos l -ℤ pos r) (pos m -ℤ pos s)
unfolding Alike
alike_diff l r m s (inl e) h b = inl (λ i. pos (e i) -ℤ pos (h i))
alike_diff l r m s (inr g) h b = inr (inl (omega (arith, ints, g.0, b), omega (arith, ints, g.1, b, h)))

-- nothing is added
alike_less : (l r m s : ℕ) → l ≡ 0 → m ≡ 0 → SameOrGreat r s → Alike (pos l -ℤ pos r) (pos m -ℤ pos s)
unfolding Alike
alike_less l r m s e f (inl h) = inl (λ i. pos ((e ∙ sym f) i) -ℤ pos (h i))
alike_less l r m s e f (inr g) = inr (inr (omega (arith, ints, g.0, e), omega (arith, ints, g.1, f)))

capped_or : (a : ℕ) → SameOrGreat (cap a) a
capped_or a = by (either_side a) where
  by : (a ≤ 2 ^ 128 - 1) ⊎ (2 ^ 128 - 1 ≤ a) → SameOrGreat (cap a) a
  by (inl h) = inl (omega arith)
  by (inr h) = inr (omega arith, h)

-- tests on which such numbers agree
great_natural : (a : ℤ) → pos (2 ^ 127) ≤ℤ a → int_le (pos 0) a ≡ true
great_natural a h = grind (arith, ints, h)

great_positive : (a : ℤ) → pos (2 ^ 127) ≤ℤ a → int_le a (pos 0) ≡ false
great_positive a h = grind (arith, ints, h)

great_leaves : (a : ℤ) → pos (2 ^ 127) ≤ℤ a → fits a ≡ false
great_leaves a h = by (int_le a (pos (2 ^ 127 - 1))) refl where
  by : (b : Bool) → int_le a (pos (2 ^ 127 - 1)) ≡ b → fits a ≡ false
  by true e = absurd (grind (arith, ints, h, e))
  by false e = grind (arith, e)

-- and on such that are too small
small_natural : (a : ℤ) → a ≤ℤ negsuc (2 ^ 127) → int_le (pos 0) a ≡ false
small_natural a h = grind (arith, ints, h)

small_positive : (a : ℤ) → a ≤ℤ negsuc (2 ^ 127) → int_le a (pos 0) ≡ true
small_positive a h = grind (arith, ints, h)

small_leaves : (a : ℤ) → a ≤ℤ negsuc (2 ^ 127) → fits a ≡ false
small_leaves a h = by (int_le (negsuc (2 ^ 127 - 1)) a) refl where
  by : (b : Bool) → int_le (negsuc (2 ^ 127 - 1)) a ≡ b → fits a ≡ false
  by true e = absurd (grind (arith, ints, h, e))
  by false e = grind (arith, e)

-- a test that all numbers agree on that are too great, and all that are too small
record Settled (test : ℤ → Bool) : Type 0 where
  answer : Bool
  other : Bool
  great : (a : ℤ) → pos (2 ^ 127) ≤ℤ a → test a ≡ answer
  small : (a : ℤ) → a ≤ℤ negsuc (2 ^ 127) → test a ≡ other

natural_settled : Settled (λ z. int_le (pos 0) z)
natural_settled = record { answer = true; other = false; great = great_natural; small = small_natural }

positive_settled : Settled (λ z. int_le z (pos 0))
positive_settled = record { answer = false; other = true; great = great_positive; small = small_positive }

fits_settled : Settled fits
fits_settled = record { answer = false; other = false; great = great_leaves; small = small_leaves }

agree_on : (test : ℤ → Bool) → Settled test → (x y : ℤ) → Alike x y → test x ≡ test y
unfolding Alike
agree_on test s x y (inl e) = ap test e
agree_on test s x y (inr (inl g)) = s.great x g.0 ∙ sym (s.great y g.1)
agree_on test s x y (inr (inr g)) = s.small x g.0 ∙ sym (s.small y g.1)

-- the terms of unknowns from k on
unfoldable pub terms_from : ℕ → ℕ → (ℕ → ℤ) → Terms
terms_from k n f = filter (λ (t : ℕ × ℤ). not (int_eq t.1 (pos 0))) (map (λ u. (u, f u)) (range_with_len k n))

-- a test that 0 passes is one of all numbers
pub all_terms : (test : ℤ → Bool) → test (pos 0) ≡ true → (k n : ℕ) (f : ℕ → ℤ) →
    list_all (λ (t : ℕ × ℤ). test t.1) (terms_from k n f) ≡ list_all (λ u. test (f u)) (range_with_len k n)
unfolding terms_from
all_terms test z k zero f = refl
all_terms test z k (suc n) f = by (all_terms test z (k + 1) n f) (int_eq (f k) (pos 0)) refl where
  by : list_all (λ (t : ℕ × ℤ). test t.1) (terms_from (k + 1) n f) ≡ list_all (λ u. test (f u)) (range_with_len (k + 1) n) → (b : Bool) → int_eq (f k) (pos 0) ≡ b →
      list_all (λ (t : ℕ × ℤ). test t.1) (cond (not b) ((k, f k) ∷ terms_from (k + 1) n f) (terms_from (k + 1) n f)) ≡ (test (f k) && list_all (λ u. test (f u)) (range_with_len (k + 1) n))
  by go true e = go ∙ sym (ap (λ b. b && list_all (λ u. test (f u)) (range_with_len (k + 1) n)) (ap test (is_zero (f k) e) ∙ z))
  by go false e = ap (λ b. test (f k) && b) go

AllAlike : ℕ → ℕ → (ℕ → ℤ) → (ℕ → ℤ) → Type 0
AllAlike k zero f g = Unit {0}
AllAlike k (suc n) f g = Alike (f k) (g k) × AllAlike (k + 1) n f g

same_tests : (test : ℤ → Bool) → Settled test → (k n : ℕ) (f g : ℕ → ℤ) → AllAlike k n f g →
    list_all (λ u. test (f u)) (range_with_len k n) ≡ list_all (λ u. test (g u)) (range_with_len k n)
unfolding AllAlike
same_tests test s k zero f g a = refl
same_tests test s k (suc n) f g a = λ i. agree_on test s (f k) (g k) a.0 i && same_tests test s (k + 1) n f g a.1 i

same_where_fits : (x y : ℤ) → Alike x y → fits x ≡ true → x ≡ y
unfolding Alike
same_where_fits x y (inl e) h = e
same_where_fits x y (inr (inl g)) h = absurd (let no = great_leaves x g.0 in cc)
same_where_fits x y (inr (inr g)) h = absurd (let no = small_leaves x g.0 in cc)

same_terms : (k n : ℕ) (f g : ℕ → ℤ) → AllAlike k n f g → list_all (λ u. fits (f u)) (range_with_len k n) ≡ true → terms_from k n f ≡ terms_from k n g
unfolding AllAlike terms_from
same_terms k zero f g a h = refl
same_terms k (suc n) f g a h =
    let both = and_parts (fits (f k)) (list_all (λ u. fits (f u)) (range_with_len (k + 1) n)) h in
    let e = same_where_fits (f k) (g k) a.0 both.0 in
    let rest = same_terms (k + 1) n f g a.1 both.1 in
    λ i. cond (not (int_eq (e i) (pos 0))) ((k, e i) ∷ rest i) (rest i)

all_alike : (l r : ℕ → ℕ) (k n : ℕ) → ((u : ℕ) → (r u < 2 ^ 127) ⊎ (l u ≡ 0)) → AllAlike k n (λ u. pos (cap (l u)) -ℤ pos (cap (r u))) (λ u. pos (l u) -ℤ pos (r u))
unfolding AllAlike
all_alike l r k zero h = tt
all_alike l r k (suc n) h = (by (h k), all_alike l r (k + 1) n h) where
  by : (r k < 2 ^ 127) ⊎ (l k ≡ 0) → Alike (pos (cap (l k)) -ℤ pos (cap (r k))) (pos (l k) -ℤ pos (r k))
  by (inl b) = alike_diff (cap (l k)) (cap (r k)) (l k) (r k) (capped_or (l k)) (omega (arith, b)) (omega (arith, b))
  by (inr e) = alike_less (cap (l k)) (cap (r k)) (l k) (r k) (omega (arith, e)) e (capped_or (r k))

right_alike : (a c : ℕ) → (c < 2 ^ 127) ⊎ (a ≡ 0) → Alike (pos (cap a + 0) -ℤ pos (cap c + 0)) (pos a -ℤ pos c)
right_alike a c h = subst (λ x. Alike (pos x -ℤ pos (cap c + 0)) (pos a -ℤ pos c)) (same a) (subst (λ x. Alike (pos (cap a) -ℤ pos x) (pos a -ℤ pos c)) (same c) (by h)) where
  same : (x : ℕ) → cap x ≡ cap x + 0
  same x = omega arith

  by : (c < 2 ^ 127) ⊎ (a ≡ 0) → Alike (pos (cap a) -ℤ pos (cap c)) (pos a -ℤ pos c)
  by (inl b) = alike_diff (cap a) (cap c) a c (capped_or a) (omega (arith, b)) (omega (arith, b))
  by (inr e) = alike_less (cap a) (cap c) a c (omega (arith, e)) e (capped_or c)

some_row : (b e : Bool) (row other : SparseRow) → b ≡ e → (b ≡ true → row ≡ other) → cond b (Some row) None ≡ cond e (Some other) None
some_row true true row other h same = ap Some (same refl)
some_row false false row other h same = refl
some_row true false row other h same = absurd (cc)
some_row false true row other h same = absurd (cc)

rows_agree : (n : ℕ) (c : Condition Form) → IsSure c → RowsAgree n (capped_totals c) c
unfolding terms_from
rows_agree n c sure =
    let f = λ (u : ℕ). pos (cap (c.left.terms u)) -ℤ pos (cap (c.right.terms u)) in
    let g = λ (u : ℕ). pos (c.left.terms u) -ℤ pos (c.right.terms u) in
    let x = pos (cap (c.right.plus + c.left.minus) + 0) -ℤ pos (cap (c.left.plus + c.right.minus) + 0) in
    let y = pos (c.right.plus + c.left.minus) -ℤ pos (c.left.plus + c.right.minus) in
    let alike = all_alike c.left.terms c.right.terms 0 n sure.terms in
    let right = right_alike (c.right.plus + c.left.minus) (c.left.plus + c.right.minus) sure.right in
    let same = λ (test : ℤ → Bool) (zero : test (pos 0) ≡ true) (s : Settled test).
    all_terms test zero 0 n f ∙ same_tests test s 0 n f g alike ∙ sym (all_terms test zero 0 n g) in
    record {
      kept = λ i. not (same (λ z. int_le (pos 0) z) refl natural_settled i && agree_on (λ z. int_le z (pos 0)) positive_settled x y right i);
      within = some_row (row_fits (row_of n (capped_totals c))) (row_fits (row_of n c)) (row_of n (capped_totals c)) (row_of n c)
          (λ i. same fits refl fits_settled i && agree_on fits fits_settled x y right i)
          (λ e.
          let both = and_parts (list_all (λ (t : ℕ × ℤ). fits t.1) (terms_from 0 n f)) (fits x) e in
          let terms = same_terms 0 n f g alike (sym (all_terms fits refl 0 n f) ∙ both.0) in
          let rights = same_where_fits x y right both.1 in
          λ i. record { terms = terms i; right = rights i });
    }

pub capped_rows : CappedRows
capped_rows = record { walks = λ give. given_carry forms capped_forms capped_form give carries; agree = rows_agree }
