-- Rows of capped sums.
use Rattle.std.proofs.Common.{◌≡◌, refl, ap, sym, ◌∙◌, arith, inl, inr, subst}
use Rattle.std.proofs.lemmas.Bool.{and_from}
use Rattle.std.specs.Prelude.{ℕ, zero, suc, ◌+◌, ◌<◌, ◌≤◌, ◌≢◌, ◌==◌, ◌⊎◌, if◌then◌else◌, Bool, true, false, cond, not, ◌&&◌, nat_lt, int_le, ℤ, pos, ◌-ℤ◌, [], ◌∷◌, length, None, Some}
use Rattle.std.specs.List.{range_with_len, list_all}
use Rattle.std.specs.Ordering.{int_eq}
use Rattle.std.proofs.lemmas.Int.{ints}
use Rattle.std.proofs.lemmas.Bool.Decides.{nat_tests, Decides-int_eq}
use Rattle.linear_rows.specs.Terms as l
use Rattle.linear_rows.specs.Terms.{SparseRow, coefficient, IsSparse}
use Rattle.annot_types.specs.System.{is_kept}
use Rattle.rules_spec.specs.Capped.{cap}
use Rattle.rules_spec.specs.Solving.{row_of}
use Rattle.rules_spec.specs.CappedRows.{fits, row_fits, within}
use Rattle.rules_spec.proofs.CappingRows.{terms_from, all_terms, both_true}
use Rattle.constraint_gen.specs.Sums.{Sum, Terms, total_of, unknown_at, number_at, IsSum}
use Rattle.constraint_gen.specs.Heard.{pair, wanted, IsDone, Leaves}
use Rattle.constraint_gen.proofs.Sums.{number_there}

-- Tests of all items

same_bool : (a b : Bool) → (a ≡ true → b ≡ true) → (b ≡ true → a ≡ true) → a ≡ b
same_bool true b f g = sym (f refl)
same_bool false true f g = g refl
same_bool false false f g = refl

all_below : (test : ℕ → Bool) (k n : ℕ) → ((u : ℕ) → k ≤ u → u < k + n → test u ≡ true) → list_all test (range_with_len k n) ≡ true
all_below test k zero h = refl
all_below test k (suc n) h =
    and_from (test k) (list_all test (range_with_len (k + 1) n)) (h k (omega arith) (omega arith)) (all_below test (k + 1) n (λ u a b. h u (omega (arith, a)) (omega (arith, b))))

pub each_below : (test : ℕ → Bool) (k n : ℕ) → list_all test (range_with_len k n) ≡ true → (u : ℕ) → k ≤ u → u < k + n → test u ≡ true
each_below test k zero h u a b = absurd (omega (arith, a, b))
each_below test k (suc n) h u a b =
    let two = both_true (test k) (list_all test (range_with_len (k + 1) n)) h in by two.0 (λ g. each_below test (k + 1) n two.1 u g (omega (arith, b))) (u == k) refl where
      by : test k ≡ true → (k + 1 ≤ u → test u ≡ true) → (c : Bool) → (u == k) ≡ c → test u ≡ true
      by here go true e = let same : u ≡ k = grind (arith, nat_tests, e) in ap test same ∙ here
      by here go false e = let differs : u ≢ k = grind (arith, nat_tests, e) in go (grind (arith, a, differs))

-- Numbers of terms

-- an unknown has a term, or is not taken
place_of : (ts : Terms) (u : ℕ) → ((i : ℕ) × (i < length ts) × (unknown_at ts i ≡ u)) ⊎ (total_of u ts ≡ 0)
place_of [] u = inr refl
place_of (t ∷ ts) u = by (t.0 == u) refl (place_of ts u) where
  by : (c : Bool) → (t.0 == u) ≡ c → ((i : ℕ) × (i < length ts) × (unknown_at ts i ≡ u)) ⊎ (total_of u ts ≡ 0) → ((i : ℕ) × (i < suc (length ts)) × (unknown_at (t ∷ ts) i ≡ u)) ⊎ ((if c then t.1 else 0) + total_of u ts ≡ 0)
  by true e go = inl (0, omega arith, grind (arith, nat_tests, e))
  by false e (inl there) = inl (suc there.0, omega (arith, there.1), there.2)
  by false e (inr none) = inr (omega (arith, none))

-- Rows that are kept

abbrev pub covered : ℕ → Sum → ℕ × ℕ → Bool
covered n left t = not (nat_lt t.0 n && nat_lt (cap (total_of t.0 left.terms)) t.1)

each_covered : (n : ℕ) (left : Sum) (ts : Terms) → list_all (covered n left) ts ≡ true → (i : ℕ) → i < length ts → unknown_at ts i < n → number_at ts i ≤ cap (total_of (unknown_at ts i) left.terms)
each_covered n left [] h i b c = absurd (omega (arith, b))
each_covered n left (t ∷ ts) h zero b c =
    let two = both_true (covered n left t) (list_all (covered n left) ts) h in
    by (nat_lt t.0 n) refl (nat_lt (cap (total_of t.0 left.terms)) t.1) refl two.0 where
      by : (x : Bool) → nat_lt t.0 n ≡ x → (y : Bool) → nat_lt (cap (total_of t.0 left.terms)) t.1 ≡ y → not (x && y) ≡ true → t.1 ≤ cap (total_of t.0 left.terms)
      by true e true g z = absurd (let no : false ≡ true = z in cc)
      by true e false g z = grind (arith, nat_tests, g)
      by false e y g z = absurd (let no : nat_lt t.0 n ≡ true = grind (arith, nat_tests, c) in cc)
each_covered n left (t ∷ ts) h (suc i) b c = each_covered n left ts (both_true (covered n left t) (list_all (covered n left) ts) h).1 i (omega (arith, b)) c

all_covered : (n : ℕ) (left : Sum) (ts : Terms) → ((i : ℕ) → i < length ts → unknown_at ts i < n → number_at ts i ≤ cap (total_of (unknown_at ts i) left.terms)) → list_all (covered n left) ts ≡ true
all_covered n left [] h = refl
all_covered n left (t ∷ ts) h = and_from (covered n left t) (list_all (covered n left) ts) (by (nat_lt t.0 n) refl (nat_lt (cap (total_of t.0 left.terms)) t.1) refl) (all_covered n left ts (λ i b c. h (suc i) (omega (arith, b)) c)) where
  by : (x : Bool) → nat_lt t.0 n ≡ x → (y : Bool) → nat_lt (cap (total_of t.0 left.terms)) t.1 ≡ y → not (x && y) ≡ true
  by false e y g = refl
  by true e false g = refl
  by true e true g =
      let low : t.0 < n = grind (arith, nat_tests, e) in
      let at_most = h 0 (omega arith) low in
      let more : cap (total_of t.0 left.terms) < t.1 = grind (arith, nat_tests, g) in
      absurd (omega (arith, at_most, more))

natural : (a b : ℕ) → b ≤ a → int_le (pos 0) (pos a -ℤ pos b) ≡ true
natural a b h = grind (arith, ints, h)

at_most : (a b : ℕ) → int_le (pos 0) (pos a -ℤ pos b) ≡ true → b ≤ a
at_most a b h = grind (arith, ints, h)

no_more : (a b : ℕ) → a ≤ b → int_le (pos a -ℤ pos b) (pos 0) ≡ true
no_more a b h = grind (arith, ints, h)

module _ (n : ℕ) (left right : Sum) (sum : IsSum right.terms) where
  abbrev diff : ℕ → ℤ
  diff u = pos (cap (total_of u left.terms)) -ℤ pos (cap (total_of u right.terms))

  there : (i : ℕ) → i < length right.terms → number_at right.terms i ≡ cap (total_of (unknown_at right.terms i) right.terms)
  there i b = number_there right.terms sum (unknown_at right.terms i) i (record { in_range = b; has_unknown = refl })

  covers_is : list_all (covered n left) right.terms ≡ list_all (λ (t : ℕ × ℤ). int_le (pos 0) t.1) (terms_from 0 n diff)
  covers_is =
      same_bool (list_all (covered n left) right.terms) (list_all (λ u. int_le (pos 0) (diff u)) (range_with_len 0 n))
      (λ h. all_below (λ u. int_le (pos 0) (diff u)) 0 n (λ u a b. natural (cap (total_of u left.terms)) (cap (total_of u right.terms)) (to h u (omega (arith, b)) (place_of right.terms u))))
      (λ h. all_covered n left right.terms (λ i b c.
      let u = unknown_at right.terms i in
      let least = at_most (cap (total_of u left.terms)) (cap (total_of u right.terms)) (each_below (λ u. int_le (pos 0) (diff u)) 0 n h u (omega arith) (omega (arith, c))) in
      omega (arith, there i b, least)))
      ∙ sym (all_terms (λ z. int_le (pos 0) z) refl 0 n diff) where
        to : list_all (covered n left) right.terms ≡ true → (u : ℕ) → u < n → ((i : ℕ) × (i < length right.terms) × (unknown_at right.terms i ≡ u)) ⊎ (total_of u right.terms ≡ 0) → cap (total_of u right.terms) ≤ cap (total_of u left.terms)
        to h u b (inl at) =
            let low = each_covered n left right.terms h at.0 at.1 (omega (arith, b, at.2)) in
            let same = at.2 in
            subst (λ w. cap (total_of w right.terms) ≤ cap (total_of w left.terms)) same (omega (arith, low, there at.0 at.1))
        to h u b (inr none) = omega (arith, none)

  pub kept_is : cap (right.plus + left.minus) ≤ cap (left.plus + right.minus) → not (list_all (covered n left) right.terms) ≡ is_kept (row_of n (pair left right))
  unfolding terms_from
  kept_is h =
      ap not (covers_is ∙ sym (and_true (list_all (λ (t : ℕ × ℤ). int_le (pos 0) t.1) (terms_from 0 n diff)))
      ∙ ap (λ b. list_all (λ (t : ℕ × ℤ). int_le (pos 0) t.1) (terms_from 0 n diff) && b) (sym (no_more (cap (right.plus + left.minus) + 0) (cap (left.plus + right.minus) + 0) (omega (arith, h))))) where
        and_true : (b : Bool) → (b && true) ≡ b
        and_true true = refl
        and_true false = refl

-- Rows whose coefficients are there

-- the terms of a walk from one place on, in order
Ascends : ℕ → l.Terms → Type 0
Ascends k [] = Unit {0}
Ascends k (t ∷ ts) = (k ≤ t.0) × (t.1 ≢ pos 0) × Ascends (suc t.0) ts

sparse_behind : (t : ℕ × ℤ) (ts : l.Terms) → IsSparse (t ∷ ts) → IsSparse ts
sparse_behind t ts s = record { ascending = λ i j a b. s.ascending (suc i) (suc j) (omega (arith, a)) (omega (arith, b)); none_zero = λ i b. s.none_zero (suc i) (omega (arith, b)) }

ascends_from : (k : ℕ) (ts : l.Terms) → IsSparse ts → ((i : ℕ) → i < length ts → k ≤ l.unknown_at ts i) → Ascends k ts
unfolding Ascends
ascends_from k [] s h = tt
ascends_from k (t ∷ ts) s h = (
  h 0 (omega arith),
  s.none_zero 0 (omega arith),
  ascends_from (suc t.0) ts (sparse_behind t ts s) (λ i b. omega (arith, s.ascending 0 (suc i) (omega arith) (omega (arith, b)))),
)

below_none : (k : ℕ) (ts : l.Terms) → Ascends (suc k) ts → coefficient k ts ≡ pos 0
unfolding Ascends
below_none k [] a = refl
below_none k (t ∷ ts) a = grind (arith, nat_tests, a.0, below_none k ts (climb k t.0 ts a.0 a.2)) where
  climb : (k m : ℕ) (ts : l.Terms) → suc k ≤ m → Ascends (suc m) ts → Ascends (suc k) ts
  climb k m [] h a = tt
  climb k m (t ∷ ts) h a = (omega (arith, h, a.0), a.1, a.2)

is_zero : (z : ℤ) → int_eq z (pos 0) ≡ true → z ≡ pos 0
is_zero z h = (Decides-int_eq z (pos 0)).0 h

not_zero : (z : ℤ) → int_eq z (pos 0) ≡ false → z ≢ pos 0
not_zero z h e = let yes : int_eq z (pos 0) ≡ true = (Decides-int_eq z (pos 0)).1 e in let no : true ≡ false = sym yes ∙ h in absurd (cc)

-- terms in order that have these coefficients
module _ (f : ℕ → ℤ) where
  canonical : (n k : ℕ) (ts : l.Terms) → Ascends k ts → ((u : ℕ) → k ≤ u → u < k + n → coefficient u ts ≡ f u) → ((u : ℕ) → k + n ≤ u → coefficient u ts ≡ pos 0) → ts ≡ terms_from k n f
  unfolding Ascends terms_from
  canonical zero k [] a in_range behind = refl
  canonical zero k (t ∷ ts) a in_range behind =
      let here : coefficient t.0 (t ∷ ts) ≡ t.1 = grind (arith, nat_tests) in absurd (a.1 (sym here ∙ behind t.0 (omega (arith, a.0))))
  canonical (suc n) k [] a in_range behind =
      let zero_here = is_zero_true (f k) (sym (in_range k (omega arith) (omega arith))) in
      canonical n (k + 1) [] tt (λ u b c. in_range u (omega (arith, b)) (omega (arith, c))) (λ u b. refl)
      ∙ ap (λ b. cond (not b) ((k, f k) ∷ terms_from (k + 1) n f) (terms_from (k + 1) n f)) (sym zero_here) where
        is_zero_true : (z : ℤ) → z ≡ pos 0 → int_eq z (pos 0) ≡ true
        is_zero_true z e = (Decides-int_eq z (pos 0)).1 e
  canonical (suc n) k (t ∷ ts) a in_range behind = by (int_eq (f k) (pos 0)) refl (t.0 == k) refl
      (λ up. canonical n (k + 1) (t ∷ ts) up (λ u b c. in_range u (omega (arith, b)) (omega (arith, c))) (λ u b. behind u (omega (arith, b))))
      (λ same up. canonical n (k + 1) ts up
      (λ u b c. (let other : (t.0 == u) ≡ false = grind (arith, nat_tests, same, b) in ap (λ x. if x then t.1 else coefficient u ts) (sym other)) ∙ in_range u (omega (arith, b)) (omega (arith, c)))
      (λ u b. (let other : (t.0 == u) ≡ false = grind (arith, nat_tests, same, b) in ap (λ x. if x then t.1 else coefficient u ts) (sym other)) ∙ behind u (omega (arith, b)))) where
        here : (if t.0 == k then t.1 else coefficient k ts) ≡ f k
        here = in_range k (omega arith) (omega arith)

        by : (b : Bool) → int_eq (f k) (pos 0) ≡ b → (c : Bool) → (t.0 == k) ≡ c →
            ((k + 1 ≤ t.0) × (t.1 ≢ pos 0) × Ascends (suc t.0) ts → t ∷ ts ≡ terms_from (k + 1) n f) →
            (t.0 ≡ k → Ascends (k + 1) ts → ts ≡ terms_from (k + 1) n f) →
            t ∷ ts ≡ cond (not b) ((k, f k) ∷ terms_from (k + 1) n f) (terms_from (k + 1) n f)
        by true e true g skip take = let zero_here = is_zero (f k) e in absurd (a.1 (ap (λ x. if x then t.1 else coefficient k ts) (sym g) ∙ here ∙ zero_here))
        by true e false g skip take = let differs : t.0 ≢ k = grind (arith, nat_tests, g) in skip (grind (arith, a.0, differs), a.1, a.2)
        by false e true g skip take =
            let same : t.0 ≡ k = grind (arith, nat_tests, g) in
            let number : t.1 ≡ f k = ap (λ x. if x then t.1 else coefficient k ts) (sym g) ∙ here in
            let rest = take same (subst (λ m. Ascends m ts) (omega (arith, same)) a.2) in
            λ i. (same i, number i) ∷ rest i
        by false e false g skip take =
            let differs : t.0 ≢ k = grind (arith, nat_tests, g) in
            let above : Ascends (suc k) (t ∷ ts) = (grind (arith, a.0, differs), a.1, a.2) in
            absurd (not_zero (f k) e (sym here ∙ below_none k (t ∷ ts) above))

wanted_below : (n : ℕ) (left right : Sum) (u : ℕ) → u < n → wanted n left right u ≡ pos (cap (total_of u left.terms)) -ℤ pos (cap (total_of u right.terms))
wanted_below n left right u h =
    let yes_below : nat_lt u n ≡ true = grind (arith, nat_tests, h) in ap (λ b. cond b (pos (cap (total_of u left.terms)) -ℤ pos (cap (total_of u right.terms))) (pos 0)) yes_below

wanted_behind : (n : ℕ) (left right : Sum) (u : ℕ) → n ≤ u → wanted n left right u ≡ pos 0
wanted_behind n left right u h =
    let none_below : nat_lt u n ≡ false = grind (arith, nat_tests, h) in ap (λ b. cond b (pos (cap (total_of u left.terms)) -ℤ pos (cap (total_of u right.terms))) (pos 0)) none_below

some_within : (row : SparseRow) → row_fits row ≡ true → Some row ≡ within row
some_within row h = ap (λ b. cond b (Some row) None) (sym h)

none_within : (row : SparseRow) → row_fits row ≡ false → None ≡ within row
none_within row h = ap (λ b. cond b (Some row) None) (sym h)

-- the row is put together
abbrev difference : Sum → Sum → ℕ → ℤ
difference left right u = pos (cap (total_of u left.terms)) -ℤ pos (cap (total_of u right.terms))

abbrev right_side : Sum → Sum → ℤ
right_side left right = pos (cap (right.plus + left.minus)) -ℤ pos (cap (left.plus + right.minus))

made : (n : ℕ) (left right : Sum) (row : SparseRow) → row.terms ≡ terms_from 0 n (difference left right) → row.right ≡ right_side left right → row ≡ row_of n (pair left right)
unfolding terms_from
made n left right row e h =
    let asked : cap (right.plus + left.minus) ≡ cap (right.plus + left.minus) + 0 = omega arith in
    let held : cap (left.plus + right.minus) ≡ cap (left.plus + right.minus) + 0 = omega arith in
    λ i. record { terms = e i; right = (h ∙ (λ j. pos (asked j) -ℤ pos (held j))) i }

row_fits_is : (n : ℕ) (left right : Sum) → row_fits (row_of n (pair left right)) ≡ (list_all (λ (t : ℕ × ℤ). fits t.1) (terms_from 0 n (difference left right)) && fits (right_side left right))
unfolding terms_from
row_fits_is n left right =
    let asked : cap (right.plus + left.minus) + 0 ≡ cap (right.plus + left.minus) = omega arith in
    let held : cap (left.plus + right.minus) + 0 ≡ cap (left.plus + right.minus) = omega arith in
    λ i. list_all (λ (t : ℕ × ℤ). fits t.1) (terms_from 0 n (difference left right)) && fits (pos (asked i) -ℤ pos (held i))

module _ (n : ℕ) (left right : Sum) where
  abbrev f : ℕ → ℤ
  f = difference left right

  abbrev r : ℤ
  r = right_side left right

  -- all is there, and fits
  pub row_is : (row : SparseRow) → IsSparse row.terms → ((u : ℕ) → IsDone (wanted n left right) row.terms u) → fits r ≡ true → row.right ≡ r → Some row ≡ within (row_of n (pair left right))
  row_is row sparse done fit is =
      let terms : row.terms ≡ terms_from 0 n f = canonical f n 0 row.terms (ascends_from 0 row.terms sparse (λ i b. omega arith))
      (λ u a b. let under : u < n = omega (arith, b) in let d = done u in d.0 ∙ wanted_below n left right u under)
      (λ u a. let over : n ≤ u = omega (arith, a) in let d = done u in d.0 ∙ wanted_behind n left right u over) in
      let all : list_all (λ (t : ℕ × ℤ). fits t.1) (terms_from 0 n f) ≡ true =
      all_terms fits refl 0 n f ∙ all_below (λ u. fits (f u)) 0 n (λ u a b. let under : u < n = omega (arith, b) in let d = done u in sym (ap fits (wanted_below n left right u under)) ∙ d.1) in
      ap Some (made n left right row terms is) ∙ some_within (row_of n (pair left right)) (row_fits_is n left right ∙ and_from _ _ all fit)

  -- a coefficient does not fit
  pub row_leaves : Leaves (wanted n left right) → None ≡ within (row_of n (pair left right))
  row_leaves h = none_within (row_of n (pair left right)) (row_fits_is n left right ∙ by (list_all (λ (t : ℕ × ℤ). fits t.1) (terms_from 0 n f)) refl) where
    by : (b : Bool) → list_all (λ (t : ℕ × ℤ). fits t.1) (terms_from 0 n f) ≡ b → (b && fits r) ≡ false
    by false e = refl
    by true e = absurd (at (nat_lt h.0 n) refl) where
      at : (b : Bool) → nat_lt h.0 n ≡ b → ⊥
      at true g =
          let under : h.0 < n = grind (arith, nat_tests, g) in
          let fit = each_below (λ u. fits (f u)) 0 n (sym (all_terms fits refl 0 n f) ∙ e) h.0 (omega arith) (omega (arith, under)) in
          let wrong : true ≡ false = sym fit ∙ sym (ap fits (wanted_below n left right h.0 under)) ∙ h.1 in cc
      at false g =
          let over : n ≤ h.0 = grind (arith, nat_tests, g) in
          let wrong : true ≡ false = sym (ap fits (wanted_behind n left right h.0 over)) ∙ h.1 in cc

  -- the right side does not
  pub right_leaves : fits r ≡ false → None ≡ within (row_of n (pair left right))
  right_leaves h =
      none_within (row_of n (pair left right)) (row_fits_is n left right ∙ ap (λ b. list_all (λ (t : ℕ × ℤ). fits t.1) (terms_from 0 n f) && b) h
      ∙ and_false (list_all (λ (t : ℕ × ℤ). fits t.1) (terms_from 0 n f))) where
        and_false : (b : Bool) → (b && false) ≡ false
        and_false true = refl
        and_false false = refl
