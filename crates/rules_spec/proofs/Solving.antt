-- Numbers solve the rows exactly where what they stand for meets all conditions.
use Rattle.std.proofs.Common.{◌≡◌, refl, ap, sym, ◌∙◌, arith, subst}
use Rattle.std.specs.Prelude.{ℕ, zero, suc, ◌+◌, ◌*◌, ◌<◌, ◌≤◌, cond, Bool, true, false, not, int_le, ℤ, pos, ◌+ℤ◌, ◌-ℤ◌, ◌*ℤ◌, ◌≤ℤ◌, List, [], ◌∷◌, map, filter, length, slice_index_or}
use Rattle.std.specs.List.{range_with_len, list_all}
use Rattle.std.specs.Ordering.{int_eq}
use Rattle.std.proofs.lemmas.Int.{ints}
use Rattle.std.proofs.lemmas.Bool.Decides.{nat_tests, Decides-int_eq}
use Rattle.std.proofs.lemmas.Bool.{and_parts, not-false}
use Rattle.raml_num.proofs.Differences.{diff, diffs, diff-pos, diff_same}
use Rattle.raml_num.specs.Sums.{NoneNegative}
use Rattle.linear_rows.specs.Terms.{Terms, SparseRow, coefficient}
use Rattle.linear_rows.specs.Vectors.{dot, scale, times, AtMost}
use Rattle.linear_rows.specs.Systems.{numbers_from}
use Rattle.annot_types.specs.System.{is_kept}
use Rattle.rules_spec.specs.Numbers.{Condition}
use Rattle.rules_spec.specs.Kinds.{amounts, Form, forms, unknown, one_at, weigh, value, Meets, AllMeet}
use Rattle.rules_spec.specs.Carried.{condition_to}
use Rattle.rules_spec.specs.Solving.{row_of, rows_of, amount, RowsAreConditions, FormsWalkAsAmounts}
use Rattle.rules_spec.specs.Tasks.{Job, unknowns, given_conditions}
use Rattle.rules_spec.proofs.Values.{forms_carry, amount_of, weigh_none}
use Rattle.rules_spec.proofs.Given.{given_carry}
use Rattle.rules_spec.proofs.Carrying.{walks_carry}

weigh_one : (x : List ℕ) (u : ℕ) → weigh (one_at u) x ≡ slice_index_or x u 0
weigh_one [] u = refl
weigh_one (x ∷ xs) zero = omega (arith, weigh_none xs)
weigh_one (x ∷ xs) (suc u) = omega (arith, weigh_one xs u)

unknown_is : (t : ℕ) (x : List ℕ) (u : ℕ) → value t x (unknown u) ≡ amount x u
unknown_is t x u = amount_of _ _ _ _ (omega (arith, weigh_one x u)) (omega arith)

-- the terms of unknowns from k on
terms_from : ℕ → ℕ → (ℕ → ℤ) → Terms
terms_from k n f = filter (λ (t : ℕ × ℤ). not (int_eq t.1 (pos 0))) (map (λ u. (u, f u)) (range_with_len k n))

pub is_zero : (z : ℤ) → int_eq z (pos 0) ≡ true → z ≡ pos 0
is_zero z h = (Decides-int_eq z (pos 0)).0 h

least_zero : (z : ℤ) → int_le (pos 0) z ≡ true → pos 0 ≤ℤ z
least_zero z h = grind (arith, ints, h)

most_zero : (z : ℤ) → int_le z (pos 0) ≡ true → z ≤ℤ pos 0
most_zero z h = grind (arith, ints, h)

none_before : (n k u : ℕ) (f : ℕ → ℤ) → u < k → coefficient u (terms_from k n f) ≡ pos 0
unfolding terms_from
none_before zero k u f h = refl
none_before (suc n) k u f h = by (none_before n (k + 1) u f (omega (arith, h))) (int_eq (f k) (pos 0)) where
  by : coefficient u (terms_from (k + 1) n f) ≡ pos 0 → (b : Bool) → coefficient u (cond (not b) ((k, f k) ∷ terms_from (k + 1) n f) (terms_from (k + 1) n f)) ≡ pos 0
  by go true = go
  by go false = grind (arith, nat_tests, h, go)

number_is : (n k i : ℕ) (f : ℕ → ℤ) → i < n → coefficient (k + i) (terms_from k n f) ≡ f (k + i)
unfolding terms_from
number_is zero k i f h = absurd (omega (arith, h))
number_is (suc n) k zero f h = by (int_eq (f k) (pos 0)) refl where
  same : k + 0 ≡ k
  same = omega arith

  by : (b : Bool) → int_eq (f k) (pos 0) ≡ b → coefficient (k + 0) (cond (not b) ((k, f k) ∷ terms_from (k + 1) n f) (terms_from (k + 1) n f)) ≡ f (k + 0)
  by true e = subst (λ j. coefficient j (terms_from (k + 1) n f) ≡ f j) (sym same) (none_before n (k + 1) k f (omega arith) ∙ sym (is_zero (f k) e))
  by false e = subst (λ j. coefficient j ((k, f k) ∷ terms_from (k + 1) n f) ≡ f j) (sym same) (grind (arith, nat_tests))
number_is (suc n) k (suc i) f h = by (subst (λ j. coefficient j (terms_from (k + 1) n f) ≡ f j) next (number_is n (k + 1) i f (omega (arith, h)))) (int_eq (f k) (pos 0)) where
  next : k + 1 + i ≡ k + suc i
  next = omega arith

  by : coefficient (k + suc i) (terms_from (k + 1) n f) ≡ f (k + suc i) → (b : Bool) → coefficient (k + suc i) (cond (not b) ((k, f k) ∷ terms_from (k + 1) n f) (terms_from (k + 1) n f)) ≡ f (k + suc i)
  by go true = go
  by go false = grind (arith, nat_tests, go)

all_natural : (n k i : ℕ) (f : ℕ → ℤ) → list_all (λ (t : ℕ × ℤ). int_le (pos 0) t.1) (terms_from k n f) ≡ true → i < n → pos 0 ≤ℤ f (k + i)
unfolding terms_from
all_natural zero k i f e h = absurd (omega (arith, h))
all_natural (suc n) k zero f e h = by (int_eq (f k) (pos 0)) refl e where
  same : k + 0 ≡ k
  same = omega arith

  by : (b : Bool) → int_eq (f k) (pos 0) ≡ b → list_all (λ (t : ℕ × ℤ). int_le (pos 0) t.1) (cond (not b) ((k, f k) ∷ terms_from (k + 1) n f) (terms_from (k + 1) n f)) ≡ true → pos 0 ≤ℤ f (k + 0)
  by true z l = subst (λ j. pos 0 ≤ℤ f j) (sym same) (let at : f k ≡ pos 0 = is_zero (f k) z in omega (arith, ints, at))
  by false z l = subst (λ j. pos 0 ≤ℤ f j) (sym same) (least_zero (f k) (and_parts (int_le (pos 0) (f k)) _ l).0)
all_natural (suc n) k (suc i) f e h = subst (λ j. pos 0 ≤ℤ f j) next (by (all_natural n (k + 1) i f) (int_eq (f k) (pos 0)) e) where
  next : k + 1 + i ≡ k + suc i
  next = omega arith

  by : (list_all (λ (t : ℕ × ℤ). int_le (pos 0) t.1) (terms_from (k + 1) n f) ≡ true → i < n → pos 0 ≤ℤ f (k + 1 + i)) → (b : Bool) →
      list_all (λ (t : ℕ × ℤ). int_le (pos 0) t.1) (cond (not b) ((k, f k) ∷ terms_from (k + 1) n f) (terms_from (k + 1) n f)) ≡ true → pos 0 ≤ℤ f (k + 1 + i)
  by go true l = go l (omega (arith, h))
  by go false l = go (and_parts (int_le (pos 0) (f k)) _ l).1 (omega (arith, h))

-- a row's product with numbers
step_diff : (a b x p q : ℕ) → diff a b *ℤ pos x +ℤ diff p q ≡ diff (a * x + p) (b * x + q)
step_diff a b x p q = simp (diffs, diff-pos) (diff_same _ _ _ _ (omega arith))

step : (a b x p q : ℕ) → (pos a -ℤ pos b) *ℤ pos x +ℤ (pos p -ℤ pos q) ≡ pos (a * x + p) -ℤ pos (b * x + q)
unfolding diff
step a b x p q = step_diff a b x p q

dot_is : (ts : Terms) (k : ℕ) (l r : ℕ → ℕ) (x : List ℕ) → ((i : ℕ) → i < length x → coefficient (k + i) ts ≡ pos (l i) -ℤ pos (r i)) →
    dot (numbers_from k (length x) ts) (map pos x) ≡ pos (weigh l x) -ℤ pos (weigh r x)
dot_is ts k l r [] h = omega (arith, ints)
dot_is ts k l r (y ∷ x) h =
    let here : coefficient k ts ≡ pos (l 0) -ℤ pos (r 0) = ap (λ j. coefficient j ts) (omega arith) ∙ h 0 (omega arith) in
    let rest = dot_is ts (suc k) (λ i. l (suc i)) (λ i. r (suc i)) x (λ i b. ap (λ j. coefficient j ts) (omega arith) ∙ h (suc i) (omega (arith, b))) in
    (λ i. here i *ℤ pos y +ℤ rest i) ∙ step (l 0) (r 0) y (weigh (λ i. l (suc i)) x) (weigh (λ i. r (suc i)) x)

row_product : (n : ℕ) (c : Condition Form) (x : List ℕ) → length x ≡ n → dot (numbers_from 0 n (row_of n c).terms) (map pos x) ≡ pos (weigh c.left.terms x) -ℤ pos (weigh c.right.terms x)
unfolding terms_from
row_product n c x e =
    let f = λ (u : ℕ). pos (c.left.terms u) -ℤ pos (c.right.terms u) in
    ap (λ m. dot (numbers_from 0 m (row_of n c).terms) (map pos x)) (sym e)
    ∙ dot_is (row_of n c).terms 0 c.left.terms c.right.terms x (λ i b. number_is n 0 i f (omega (arith, b, e)) ∙ ap f (omega arith))

right_diff : (t p n : ℕ) → pos t *ℤ diff p n ≡ diff (t * p) (t * n)
right_diff t p n = simp (diffs, diff-pos) (diff_same _ _ _ _ (omega arith))

right_is : (t p n : ℕ) → pos t *ℤ (pos p -ℤ pos n) ≡ pos (t * p) -ℤ pos (t * n)
unfolding diff
right_is t p n = right_diff t p n

sides_to_row : (l r lp lm rp rm t : ℕ) → (r + t * rp) + t * lm ≤ (l + t * lp) + t * rm → (pos (t * (rp + lm)) -ℤ pos (t * (lp + rm))) ≤ℤ (pos l -ℤ pos r)
sides_to_row l r lp lm rp rm t h = omega (arith, ints)

row_to_sides : (l r lp lm rp rm t : ℕ) → (pos (t * (rp + lm)) -ℤ pos (t * (lp + rm))) ≤ℤ (pos l -ℤ pos r) → (r + t * rp) + t * lm ≤ (l + t * lp) + t * rm
row_to_sides l r lp lm rp rm t h = omega (arith, ints)

mul_le : (a b x : ℕ) → a ≤ b → a * x ≤ b * x
mul_le a b zero h = omega arith
mul_le a b (suc x) h = omega (arith, h, mul_le a b x h)

weigh_le : (f g : ℕ → ℕ) (x : List ℕ) → ((u : ℕ) → u < length x → f u ≤ g u) → weigh f x ≤ weigh g x
weigh_le f g [] h = omega arith
weigh_le f g (x ∷ xs) h =
    let m : f 0 * x ≤ g 0 * x = mul_le (f 0) (g 0) x (h 0 (omega arith)) in
    omega (arith, m, weigh_le (λ u. f (suc u)) (λ u. g (suc u)) xs (λ u b. h (suc u) (omega (arith, b))))

natural_diff : (a b : ℕ) → pos 0 ≤ℤ (pos a -ℤ pos b) → b ≤ a
natural_diff a b h = omega (arith, ints)

small_right : (a b : ℕ) → (pos a -ℤ pos b) ≤ℤ pos 0 → a ≤ b
small_right a b h = omega (arith, ints)

module _ (t : ℕ) (x : List ℕ) (n : ℕ) (len : length x ≡ n) where
  abbrev MeetsRow : SparseRow → Type 0
  MeetsRow row = (pos t *ℤ row.right) ≤ℤ dot (numbers_from 0 n row.terms) (map pos x)

  to_row : (c : Condition Form) → Meets (condition_to (value t x) c) → MeetsRow (row_of n c)
  to_row c h =
      rw (row_product n c x len, right_is t (c.right.plus + c.left.minus) (c.left.plus + c.right.minus))
      (sides_to_row (weigh c.left.terms x) (weigh c.right.terms x) c.left.plus c.left.minus c.right.plus c.right.minus t h)

  from_row : (c : Condition Form) → MeetsRow (row_of n c) → Meets (condition_to (value t x) c)
  from_row c h =
      row_to_sides (weigh c.left.terms x) (weigh c.right.terms x) c.left.plus c.left.minus c.right.plus c.right.minus t
      (rw (sym (row_product n c x len), sym (right_is t (c.right.plus + c.left.minus) (c.left.plus + c.right.minus))) h)

  -- what is left out is met by all numbers
  left_out : (c : Condition Form) → is_kept (row_of n c) ≡ false → Meets (condition_to (value t x) c)
  unfolding terms_from
  left_out c e =
      let both = and_parts (list_all (λ (t : ℕ × ℤ). int_le (pos 0) t.1) (row_of n c).terms) (int_le (row_of n c).right (pos 0)) (not-false _ e) in
      let f = λ (u : ℕ). pos (c.left.terms u) -ℤ pos (c.right.terms u) in
      let w : weigh c.right.terms x ≤ weigh c.left.terms x = weigh_le c.right.terms c.left.terms x
      (λ u b. natural_diff (c.left.terms u) (c.right.terms u) (subst (λ j. pos 0 ≤ℤ f j) (omega arith) (all_natural n 0 u f both.0 (omega (arith, b, len))))) in
      let p : (c.right.plus + c.left.minus) * t ≤ (c.left.plus + c.right.minus) * t = mul_le _ _ t (small_right _ _ (most_zero _ both.1)) in
      omega (arith, w, p)

  abbrev AllRows : List SparseRow → Type 0
  AllRows rows = AtMost (scale (pos t) (map (λ (row : SparseRow). row.right) rows)) (times (map (λ (row : SparseRow). numbers_from 0 n row.terms) rows) (map pos x))

  solved : (cs : List (Condition Form)) → AllMeet (map (condition_to (value t x)) cs) → AllRows (rows_of n cs)
  solved [] h = tt
  solved (c ∷ cs) h = by (solved cs h.1) (is_kept (row_of n c)) where
    by : AllRows (rows_of n cs) → (b : Bool) → AllRows (cond b (row_of n c ∷ rows_of n cs) (rows_of n cs))
    by rest true = (to_row c h.0, rest)
    by rest false = rest

  met : (cs : List (Condition Form)) → AllRows (rows_of n cs) → AllMeet (map (condition_to (value t x)) cs)
  met [] h = tt
  met (c ∷ cs) h = by (met cs) (is_kept (row_of n c)) refl h where
    by : (AllRows (rows_of n cs) → AllMeet (map (condition_to (value t x)) cs)) → (b : Bool) → is_kept (row_of n c) ≡ b → AllRows (cond b (row_of n c ∷ rows_of n cs) (rows_of n cs)) →
        AllMeet (map (condition_to (value t x)) (c ∷ cs))
    by go true e k = (from_row c k.0, go k.1)
    by go false e k = (left_out c e, go k)

evaluated : (j : Job) (t : ℕ) (x : List ℕ) → given_conditions (amounts t) (amount x) j ≡ map (condition_to (value t x)) (given_conditions forms unknown j)
evaluated j t x =
    ap (λ give. given_conditions (amounts t) give j) (λ i u. sym (unknown_is t x u) i) ∙ given_carry forms (amounts t) (value t x) unknown (forms_carry t x) j

all_naturals : (x : List ℕ) → NoneNegative (map pos x)
all_naturals [] = tt
all_naturals (n ∷ x) = (omega (arith, ints), all_naturals x)

length_map : (x : List ℕ) → length (map pos x) ≡ length x
length_map [] = refl
length_map (n ∷ x) = ap suc (length_map x)

pub rows_are_conditions : RowsAreConditions
rows_are_conditions j weights t x len = let cs = given_conditions forms unknown j in (
  λ h. subst AllMeet (sym (evaluated j t x)) (met t x (unknowns j) len cs h.rows),
  λ h. record {
    one_each = length_map x ∙ len;
    natural = all_naturals x;
    rows = solved t x (unknowns j) len cs (subst AllMeet (evaluated j t x) h);
  },
)

pub forms_walk_as_amounts : FormsWalkAsAmounts
forms_walk_as_amounts t x = walks_carry forms (amounts t) (value t x) (forms_carry t x)
