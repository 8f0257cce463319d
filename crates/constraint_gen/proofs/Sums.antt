-- Terms that ascend: where an unknown stands, and what an edit there does.
use Rattle.std.proofs.Common.{◌≡◌, refl, ap, sym, ◌∙◌, arith, subst, append-nil, append_assoc}
use Rattle.std.specs.Prelude.{ℕ, zero, suc, ◌+◌, ◌-◌, ◌*◌, ◌^◌, ◌<◌, ◌≤◌, ◌≢◌, ◌==◌, if◌then◌else◌, cond, nat_lt, Bool, true, false, [], ◌∷◌, ◌++◌, length, set, take, drop, List, slice_index_or, Result, Ok, Err, IfOk, IfErr}
use Rattle.std.specs.List.{insert, refill}
use Rattle.std.specs.List.Sorted.{IsSearchInRange, IsBinarySearchResult, IsNonDecreasingBy}
use Rattle.std.specs.Ordering.{nat_cmp, ordering_index}
use Rattle.std.proofs.Math.Seq.{take-append_seam}
use Rattle.std.proofs.lemmas.Cmp.{ranked}
use Rattle.std.proofs.lemmas.List.Sorted.{IsNonDecreasingBy-from_default}
use Rattle.std.proofs.lemmas.List.Edits.{length-insert, get_or-insert_below, get_or-insert_at, get_or-insert_above}
use Rattle.std.proofs.lemmas.Bool.Decides.{nat_tests}
use Rattle.std.proofs.lemmas.Grind.{common_steps}
use Rattle.rules_spec.specs.Capped.{cap}
use Rattle.rules_spec.specs.Numbers.{Carries}
use Rattle.rules_spec.specs.CappedRows.{capped_forms}
use Rattle.rules_spec.proofs.CappingRows.{same_form, cap_plus, cap_times}
use Rattle.constraint_gen.specs.Sums.{Terms, unknown_at, number_at, IsSum, total_of, put, put_all, scaled, sums, form_of, IsAt, IsGapFor}

module _ (ts : Terms) (sum : IsSum ts) (u : ℕ) where
  rising : IsNonDecreasingBy (λ term. ordering_index (nat_cmp term.0 u)) ts
  rising = IsNonDecreasingBy-from_default (λ term. ordering_index (nat_cmp term.0 u)) ts (0, 0) (λ i j le in_range.
      let unknowns_rise : unknown_at ts i ≤ unknown_at ts j = grind (arith, sum.ascending i j, λ (same : i ≡ j). ap (unknown_at ts) same) in
      grind (arith, nat_tests))

  -- a search by the unknown ends at its term, or at the gap for it
  pub searched : (r : Result ℕ ℕ) → IsSearchInRange r (length ts) → IsBinarySearchResult (λ term. nat_cmp term.0 u) ts r → record { found : IfOk r (IsAt ts u); absent : IfErr r (IsGapFor ts u) }
  searched (Ok at) in_range equal = record { found = record { in_range = in_range; has_unknown = ranked _ u _ (sym (equal (0, 0))) }; absent = tt }
  searched (Err at) in_range parted = record {
    found = tt;
    absent = record {
      in_range = in_range;
      lesser_before = λ j lt. ranked _ u _ (sym ((parted rising).0 j (0, 0) (omega arith) lt));
      greater_after = λ j le lt. ranked _ u _ (sym ((parted rising).1 j (0, 0) le lt));
    };
  }

-- how often an unknown is taken
pub total_none : (ts : Terms) (u : ℕ) → ((j : ℕ) → j < length ts → unknown_at ts j ≢ u) → total_of u ts ≡ 0
total_none [] u h = refl
total_none (x ∷ ts) u h = by (total_none ts u (λ j b. h (suc j) (omega (arith, b)))) (x.0 == u) refl where
  by : total_of u ts ≡ 0 → (b : Bool) → (x.0 == u) ≡ b → (if b then x.1 else 0) + total_of u ts ≡ 0
  by go true e = absurd (h 0 (omega arith) (grind (arith, nat_tests, e)))
  by go false e = omega (arith, go)

total_there : (ts : Terms) (u i : ℕ) → IsAt ts u i → ((j : ℕ) → j < length ts → j ≢ i → unknown_at ts j ≢ u) → total_of u ts ≡ number_at ts i
total_there [] u i at h = absurd (omega (arith, at.in_range))
total_there (x ∷ ts) u zero at h =
    let none = total_none ts u (λ j b. h (suc j) (omega (arith, b)) (omega arith)) in
    let here : (x.0 == u) ≡ true = grind (arith, nat_tests, at.has_unknown) in
    (λ i. (if here i then x.1 else 0) + none i) ∙ omega arith
total_there (x ∷ ts) u (suc i) at h =
    let go = total_there ts u i (record { in_range = omega (arith, at.in_range); has_unknown = at.has_unknown }) (λ j b differs. h (suc j) (omega (arith, b)) (λ e. differs (omega (arith, e)))) in
    let first = h 0 (omega arith) (omega arith) in
    let other : (x.0 == u) ≡ false = grind (arith, nat_tests, first) in
    (λ j. (if other j then x.1 else 0) + go j) ∙ omega arith

module _ (ts : Terms) (sum : IsSum ts) (u i : ℕ) where
  pub number_there : IsAt ts u i → number_at ts i ≡ cap (total_of u ts)
  number_there at =
      let there = total_there ts u i at (λ j b differs same. grind (arith, sum.ascending i j, sum.ascending j i, at.in_range, at.has_unknown, b, differs, same)) in
      omega (arith, there, sum.capped i at.in_range)

  pub number_in_gap : IsGapFor ts u i → 0 ≡ cap (total_of u ts)
  number_in_gap gap = let none = total_none ts u (λ j b same. grind (arith, gap.lesser_before j, gap.greater_after j, b, same)) in omega (arith, none)

pub sum_behind : (x : ℕ × ℕ) (ts : Terms) → IsSum (x ∷ ts) → IsSum ts
sum_behind x ts sum = record {
  ascending = λ i j lt in_range. sum.ascending (suc i) (suc j) (omega (arith, lt)) (omega (arith, in_range));
  capped = λ i in_range. sum.capped (suc i) (omega (arith, in_range));
}

-- the term that is put stands where a search ends
pub put_there : (ts : Terms) (u n i : ℕ) → IsSum ts → IsAt ts u i → put u n ts ≡ set ts i (u, cap (number_at ts i + n))
put_there [] u n i sum at = absurd (omega (arith, at.in_range))
put_there (x ∷ ts) u n zero sum at =
    let here : (x.0 == u) ≡ true = grind (arith, nat_tests, at.has_unknown) in
    ap (λ b. if b then (u, cap (x.1 + n)) ∷ ts else cond (nat_lt u x.0) ((u, n) ∷ x ∷ ts) (x ∷ put u n ts)) here
put_there (x ∷ ts) u n (suc i) sum at =
    let lesser = sum.ascending 0 (suc i) (omega arith) at.in_range in
    let other : (x.0 == u) ≡ false = grind (arith, nat_tests, lesser, at.has_unknown) in
    let before : nat_lt u x.0 ≡ false = grind (arith, nat_tests, lesser, at.has_unknown) in
    (λ j. if other j then (u, cap (x.1 + n)) ∷ ts else cond (before j) ((u, n) ∷ x ∷ ts) (x ∷ put u n ts))
    ∙ ap (λ l. x ∷ l) (put_there ts u n i (sum_behind x ts sum) (record { in_range = omega (arith, at.in_range); has_unknown = at.has_unknown }))

gap_behind : (x : ℕ × ℕ) (ts : Terms) (u i : ℕ) → IsGapFor (x ∷ ts) u (suc i) → IsGapFor ts u i
gap_behind x ts u i gap = record {
  in_range = omega (arith, gap.in_range);
  lesser_before = λ j b. gap.lesser_before (suc j) (omega (arith, b));
  greater_after = λ j b c. gap.greater_after (suc j) (omega (arith, b)) (omega (arith, c));
}

pub put_in_gap : (ts : Terms) (u n i : ℕ) → IsGapFor ts u i → put u n ts ≡ insert ts i (u, n)
put_in_gap [] u n zero gap = refl
put_in_gap [] u n (suc i) gap = absurd (omega (arith, gap.in_range))
put_in_gap (x ∷ ts) u n zero gap =
    let greater = gap.greater_after 0 (omega arith) (omega arith) in
    let other : (x.0 == u) ≡ false = grind (arith, nat_tests, greater) in
    let before : nat_lt u x.0 ≡ true = grind (arith, nat_tests, greater) in
    λ j. if other j then (u, cap (x.1 + n)) ∷ ts else cond (before j) ((u, n) ∷ x ∷ ts) (x ∷ put u n ts)
put_in_gap (x ∷ ts) u n (suc i) gap =
    let lesser = gap.lesser_before 0 (omega arith) in
    let other : (x.0 == u) ≡ false = grind (arith, nat_tests, lesser) in
    let before : nat_lt u x.0 ≡ false = grind (arith, nat_tests, lesser) in
    (λ j. if other j then (u, cap (x.1 + n)) ∷ ts else cond (before j) ((u, n) ∷ x ∷ ts) (x ∷ put u n ts)) ∙ ap (λ l. x ∷ l) (put_in_gap ts u n i (gap_behind x ts u i gap))

module _ (ts : Terms) (sum : IsSum ts) (u i : ℕ) where
  pub sum_set : IsAt ts u i → (n : ℕ) → n ≤ 2 ^ 128 - 1 → IsSum (set ts i (u, n))
  sum_set at n low = record {
    ascending = λ j k lt in_range. grind (arith, common_steps, sum.ascending j k, sum.ascending j i, sum.ascending i k, at.in_range, at.has_unknown);
    capped = λ j in_range. grind (arith, common_steps, sum.capped j, at.in_range, low);
  }

  pub sum_insert : IsGapFor ts u i → (t : ℕ) → t ≤ 2 ^ 128 - 1 → IsSum (insert ts i (u, t))
  sum_insert gap t low =
      let new = insert ts i (u, t) in
      let unknown = λ (x : ℕ × ℕ). x.0 in
      let number = λ (x : ℕ × ℕ). x.1 in
      let length_new = length-insert ts i (u, t) gap.in_range in
      let below : (j : ℕ) → j < i → slice_index_or new j (0, 0) ≡ slice_index_or ts j (0, 0) = λ j lt. get_or-insert_below ts i (u, t) (0, 0) j lt gap.in_range in
      let here : (j : ℕ) → j ≡ i → slice_index_or new j (0, 0) ≡ (u, t) = λ j same. rw same (get_or-insert_at ts i (u, t) (0, 0) gap.in_range) in
      let above : (j : ℕ) → i < j → slice_index_or new j (0, 0) ≡ slice_index_or ts (j - 1) (0, 0) = λ j gt.
      subst (λ q. slice_index_or new q (0, 0) ≡ slice_index_or ts (j - 1) (0, 0)) {x = j - 1 + 1} (omega (arith, gt)) (get_or-insert_above ts i (u, t) (0, 0) (j - 1) (omega (arith, gt)) gap.in_range) in
      record {
        ascending = λ j k lt in_range. grind (
          arith,
          λ (b : j < i). ap unknown (below j b),
          λ (e : j ≡ i). ap unknown (here j e),
          λ (b : i < j). ap unknown (above j b),
          λ (b : k < i). ap unknown (below k b),
          λ (e : k ≡ i). ap unknown (here k e),
          λ (b : i < k). ap unknown (above k b),
          sum.ascending j k,
          sum.ascending j (k - 1),
          sum.ascending (j - 1) (k - 1),
          gap.lesser_before j,
          gap.greater_after (k - 1),
        );
        capped = λ j in_range. grind (arith, λ (b : j < i). ap number (below j b), λ (e : j ≡ i). ap number (here j e), λ (b : i < j). ap number (above j b), sum.capped j, sum.capped (j - 1), low);
      }

-- terms that ascend are put one behind the other
at_length : (xs : Terms) (x : ℕ × ℕ) (ys : Terms) → unknown_at (xs ++ x ∷ ys) (length xs) ≡ x.0
at_length [] x ys = refl
at_length (y ∷ xs) x ys = at_length xs x ys

length_more : (xs : Terms) (x : ℕ × ℕ) (ys : Terms) → length xs < length (xs ++ x ∷ ys)
length_more [] x ys = omega arith
length_more (y ∷ xs) x ys = omega (arith, length_more xs x ys)

put_last : (xs : Terms) (x : ℕ × ℕ) (ys : Terms) → IsSum (xs ++ x ∷ ys) → put x.0 x.1 xs ≡ xs ++ x ∷ []
put_last [] x ys sum = refl
put_last (y ∷ xs) x ys sum =
    let lesser = sum.ascending 0 (suc (length xs)) (omega arith) (omega (arith, length_more xs x ys)) in
    let other : (y.0 == x.0) ≡ false = grind (arith, nat_tests, lesser, at_length xs x ys) in
    let before : nat_lt x.0 y.0 ≡ false = grind (arith, nat_tests, lesser, at_length xs x ys) in
    (λ j. if other j then (x.0, cap (y.1 + x.1)) ∷ xs else cond (before j) ((x.0, x.1) ∷ y ∷ xs) (y ∷ put x.0 x.1 xs)) ∙ ap (λ l. y ∷ l) (put_last xs x ys (sum_behind y (xs ++ x ∷ ys) sum))

put_from : (xs ys : Terms) → IsSum (xs ++ ys) → put_all ys xs ≡ xs ++ ys
put_from xs [] sum = sym (append-nil xs)
put_from xs (y ∷ ys) sum =
    let one = append_assoc xs (y ∷ []) ys in
    ap (put_all ys) (put_last xs y ys sum) ∙ put_from (xs ++ y ∷ []) ys (subst IsSum (sym one) sum) ∙ one

pub put_on_none : (ts : Terms) → IsSum ts → put_all ts [] ≡ ts
put_on_none ts sum = put_from [] ts sum

-- multiples of terms
length_scaled : (n : ℕ) (ts : Terms) → length (scaled n ts) ≡ length ts
length_scaled n [] = refl
length_scaled n (t ∷ ts) = ap suc (length_scaled n ts)

scaled_at : (n : ℕ) (ts : Terms) (i : ℕ) → i < length ts → slice_index_or (scaled n ts) i (0, 0) ≡ (unknown_at ts i, cap (n * number_at ts i))
scaled_at n [] i b = absurd (omega (arith, b))
scaled_at n (t ∷ ts) zero b = refl
scaled_at n (t ∷ ts) (suc i) b = scaled_at n ts i (omega (arith, b))

-- as many items in the place of a list's are what is left there
pub refill_same : {X : Type 0} (n : ℕ) (xs ws : List X) → length ws ≡ n → refill n xs ws ≡ ws
refill_same n xs ws e = subst (λ m. take m (ws ++ drop (length ws) xs) ≡ ws) e (take-append_seam ws (drop (length ws) xs))

pub sum_scaled : (n : ℕ) (ts : Terms) → IsSum ts → IsSum (scaled n ts)
sum_scaled n ts sum =
    let at = λ (i : ℕ) (b : i < length (scaled n ts)). scaled_at n ts i (omega (arith, b, length_scaled n ts)) in
    record {
      ascending = λ i j lt b.
          let first = ap (λ (e : ℕ × ℕ). e.0) (at i (omega (arith, lt, b))) in
          let second = ap (λ (e : ℕ × ℕ). e.0) (at j b) in
          omega (arith, first, second, sum.ascending i j lt (omega (arith, b, length_scaled n ts)));
      capped = λ i b. let number = ap (λ (e : ℕ × ℕ). e.1) (at i b) in omega (arith, number);
    }

-- whatever the terms, what is put is added
put_total : (u n v : ℕ) (ts : Terms) → cap (total_of v (put u n ts)) ≡ cap (total_of v ts + (if u == v then n else 0))
put_total u n v [] = omega arith
put_total u n v (t ∷ ts) = by (t.0 == u) refl (nat_lt u t.0) (put_total u n v ts) where
  same_unknown : (b : Bool) → cap ((if b then cap (t.1 + n) else 0) + total_of v ts) ≡ cap ((if b then t.1 else 0) + total_of v ts + (if b then n else 0))
  same_unknown true = omega arith
  same_unknown false = omega arith

  behind : (a b : ℕ) → cap (total_of v (put u n ts)) ≡ cap (total_of v ts + b) → cap (a + total_of v (put u n ts)) ≡ cap (a + total_of v ts + b)
  behind a b go = omega (arith, go)

  by : (b : Bool) → (t.0 == u) ≡ b → (c : Bool) → cap (total_of v (put u n ts)) ≡ cap (total_of v ts + (if u == v then n else 0)) →
      cap (total_of v (if b then (u, cap (t.1 + n)) ∷ ts else cond c ((u, n) ∷ t ∷ ts) (t ∷ put u n ts))) ≡ cap ((if t.0 == v then t.1 else 0) + total_of v ts + (if u == v then n else 0))
  by true e c go = let same : t.0 ≡ u = grind (arith, nat_tests, e) in same_unknown (u == v) ∙ ap (λ w. cap ((if w == v then t.1 else 0) + total_of v ts + (if u == v then n else 0))) (sym same)
  by false e true go = omega arith
  by false e false go = behind (if t.0 == v then t.1 else 0) (if u == v then n else 0) go

put_all_total : (v : ℕ) (xs ts : Terms) → cap (total_of v (put_all xs ts)) ≡ cap (cap (total_of v ts) + cap (total_of v xs))
put_all_total v [] ts = omega arith
put_all_total v (x ∷ xs) ts =
    put_all_total v xs (put x.0 x.1 ts) ∙ ap (λ n. cap (n + cap (total_of v xs))) (put_total x.0 x.1 v ts) ∙ omega arith

scaled_total : (n v : ℕ) (ts : Terms) → cap (total_of v (scaled n ts)) ≡ cap (n * cap (total_of v ts))
scaled_total n v [] = omega arith
scaled_total n v (t ∷ ts) = by (t.0 == v) (scaled_total n v ts) where
  by : (b : Bool) → cap (total_of v (scaled n ts)) ≡ cap (n * cap (total_of v ts)) → cap ((if b then cap (n * t.1) else 0) + total_of v (scaled n ts)) ≡ cap (n * cap ((if b then t.1 else 0) + total_of v ts))
  by false go = ap (λ m. cap m) (omega arith) ∙ go ∙ ap (λ m. cap (n * cap m)) (omega arith)
  by true go =
      cap_plus (cap (n * t.1)) (total_of v (scaled n ts)) ∙ ap (λ m. cap (cap (cap (n * t.1)) + m)) (go ∙ sym (cap_times n (total_of v ts)))
      ∙ more (n * t.1) (n * total_of v ts) ∙ ap cap (grind arith) ∙ cap_times n (t.1 + total_of v ts) where
        more : (a b : ℕ) → cap (cap (cap a) + cap b) ≡ cap (a + b)
        more a b = omega arith

pub carries : Carries sums capped_forms form_of
carries = record {
  none = same_form _ _ (λ u. omega arith) refl refl;
  plus = λ x y. same_form _ _ (λ u. put_all_total u y.terms x.terms) refl refl;
  times = λ n x. same_form _ _ (λ u. scaled_total n u x.terms) refl refl;
  number = λ n. same_form _ _ (λ u. omega arith) refl refl;
  less = λ n x. same_form _ _ (λ u. refl) refl refl;
}
