-- Where a term is among terms that ascend, and what an edit at that place does.
use Rattle.std.proofs.Common.{◌≡◌, refl, Bool, true, false, if◌then◌else◌, OnOk, OnErr, ℕ, ◌+◌, ◌-◌, ◌<◌, ◌≤◌, ◌≢◌, length, set, Result, Ok, Err, IfOk, IfErr, sym, ap, subst, arith, ℤ, pos, ◌+ℤ◌}
use Rattle.std.specs.List.{insert, remove}
use Rattle.std.specs.List.Sorted.{IsSearchInRange, IsBinarySearchResult, IsNonDecreasingBy}
use Rattle.std.specs.Ordering.{nat_cmp, ordering_index, int_eq}
use Rattle.linear_rows.specs.declared.row.RowFault.{RowFault}
use Rattle.std.proofs.lemmas.Cmp.{ranked}
use Rattle.std.proofs.lemmas.Int.{ints}
use Rattle.std.proofs.lemmas.List.Sorted.{IsNonDecreasingBy-from_default}
use Rattle.std.proofs.lemmas.List.Edits.{length-insert, length-remove, get_or-remove_below, get_or-remove_above, get_or-insert_below, get_or-insert_at, get_or-insert_above}
use Rattle.std.proofs.lemmas.Bool.Decides.{nat_tests}
use Rattle.std.proofs.lemmas.Grind.{common_steps}
use Rattle.linear_rows.specs.Terms.{Terms, coefficient, unknown_at, number_at, IsSparse, AddsAt, IsAt, IsGapFor, with_number, with_term}
use Rattle.linear_rows.proofs.Coefficients.{NoneBefore, NoneAfter, Puts, coefficient_absent, coefficient_present, coefficient_set, coefficient_insert, coefficient_remove}

-- putting the old number and t more adds t
adds_from_puts : (old new : Terms) (u : ℕ) (c t : ℤ) → c ≡ coefficient u old +ℤ t → Puts old new u c → AddsAt u t old new
adds_from_puts old new u c t e puts = record { this = grind (arith, nat_tests, puts u); others = λ v differs. grind (arith, nat_tests, puts v) }

module _ (ts : Terms) (sparse : IsSparse ts) (u : ℕ) where
  -- the comparisons with u rise along the terms, as a binary search asks
  comparisons_rise : IsNonDecreasingBy (λ term. ordering_index (nat_cmp term.0 u)) ts
  comparisons_rise = IsNonDecreasingBy-from_default (λ term. ordering_index (nat_cmp term.0 u)) ts (0, pos 0) (λ i j le in_range.
      let unknowns_rise : unknown_at ts i ≤ unknown_at ts j = grind (arith, sparse.ascending i j, λ (same : i ≡ j). ap (unknown_at ts) same) in
      grind (arith, nat_tests))

  -- a binary search by unknown ends at its term, or at the gap for it
  pub searched : (r : Result ℕ ℕ) → IsSearchInRange r (length ts) → IsBinarySearchResult (λ term. nat_cmp term.0 u) ts r → record { found : IfOk r (IsAt ts u); absent : IfErr r (IsGapFor ts u) }
  searched (Ok at) in_range equal = record { found = record { in_range = in_range; has_unknown = ranked _ u _ (sym (equal (0, pos 0))) }; absent = tt }
  searched (Err at) in_range parted = record {
    found = tt;
    absent = record {
      in_range = in_range;
      lesser_before = λ j lt. ranked _ u _ (sym ((parted comparisons_rise).0 j (0, pos 0) (omega arith) lt));
      greater_after = λ j le lt. ranked _ u _ (sym ((parted comparisons_rise).1 j (0, pos 0) le lt));
    };
  }

module _ (ts : Terms) (sparse : IsSparse ts) (u at : ℕ) (is_at : IsAt ts u at) where
  none_before_at : NoneBefore ts u at
  none_before_at j lt same = omega (arith, sparse.ascending j at lt is_at.in_range, is_at.has_unknown)

  none_after_at : NoneAfter ts u at
  none_after_at j lt in_range same = omega (arith, sparse.ascending at j lt in_range, is_at.has_unknown)

  -- the unknown has the number of its term
  pub coefficient_at : coefficient u ts ≡ number_at ts at
  coefficient_at = coefficient_present ts u at is_at none_before_at

  -- another number there, which is not 0
  pub adds_set : (c t : ℤ) → c ≡ number_at ts at +ℤ t → AddsAt u t ts (set ts at (u, c))
  adds_set c t e = adds_from_puts _ _ u c t (rw coefficient_at e) (coefficient_set ts u c at is_at none_before_at)

  pub sparse_set : (c : ℤ) → c ≢ pos 0 → IsSparse (set ts at (u, c))
  sparse_set c differs = record {
    ascending = λ i j lt in_range. grind (arith, common_steps, sparse.ascending i j, sparse.ascending i at, sparse.ascending at j, is_at.in_range, is_at.has_unknown);
    none_zero = λ i in_range. grind (arith, common_steps, sparse.none_zero i, is_at.in_range);
  }

  -- no term there any more
  pub adds_remove : (t : ℤ) → number_at ts at +ℤ t ≡ pos 0 → AddsAt u t ts (remove ts at)
  adds_remove t e = adds_from_puts _ _ u (pos 0) t (rw coefficient_at (sym e)) (coefficient_remove ts u at is_at none_before_at none_after_at)

module _ (ts : Terms) (sparse : IsSparse ts) (at : ℕ) (in_range : at < length ts) where
  pub sparse_remove : IsSparse (remove ts at)
  sparse_remove =
      let new = remove ts at in
      let unknown = λ (x : ℕ × ℤ). x.0 in
      let number = λ (x : ℕ × ℤ). x.1 in
      let length_new = length-remove ts at in_range in
      let below : (i : ℕ) → i < at → unknown_at new i ≡ unknown_at ts i = λ i lt. ap unknown (get_or-remove_below ts at (0, pos 0) i lt in_range) in
      let above : (i : ℕ) → at ≤ i → unknown_at new i ≡ unknown_at ts (i + 1) = λ i le. ap unknown (get_or-remove_above ts at (0, pos 0) i le in_range) in
      let number_below : (i : ℕ) → i < at → number_at new i ≡ number_at ts i = λ i lt. ap number (get_or-remove_below ts at (0, pos 0) i lt in_range) in
      let number_above : (i : ℕ) → at ≤ i → number_at new i ≡ number_at ts (i + 1) = λ i le. ap number (get_or-remove_above ts at (0, pos 0) i le in_range) in
      record {
        ascending = λ i j lt in_new. grind (arith, below i, above i, below j, above j, sparse.ascending i j, sparse.ascending i (j + 1), sparse.ascending (i + 1) (j + 1));
        none_zero = λ i in_new. grind (arith, number_below i, number_above i, sparse.none_zero i, sparse.none_zero (i + 1));
      }

module _ (ts : Terms) (u at : ℕ) (gap : IsGapFor ts u at) where
  -- an unknown that has a gap has the number 0
  pub coefficient_in_gap : coefficient u ts ≡ pos 0
  coefficient_in_gap = coefficient_absent ts u (λ j lt same. grind (arith, gap.lesser_before j, gap.greater_after j))

  -- a new term in the gap
  pub adds_insert : (t : ℤ) → AddsAt u t ts (insert ts at (u, t))
  adds_insert t = adds_from_puts _ _ u t t (rw coefficient_in_gap (omega (arith, ints))) (coefficient_insert ts u t at (λ j lt same. omega (arith, gap.lesser_before j lt)))

  -- each new term is an old one below the gap, the new one at it, or an old one moved up by one
  pub sparse_insert : (t : ℤ) → t ≢ pos 0 → IsSparse ts → IsSparse (insert ts at (u, t))
  sparse_insert t differs sparse =
      let new = insert ts at (u, t) in
      let unknown = λ (x : ℕ × ℤ). x.0 in
      let number = λ (x : ℕ × ℤ). x.1 in
      let length_new = length-insert ts at (u, t) gap.in_range in
      let below : (i : ℕ) → i < at → unknown_at new i ≡ unknown_at ts i = λ i lt. ap unknown (get_or-insert_below ts at (u, t) (0, pos 0) i lt gap.in_range) in
      let here : (i : ℕ) → i ≡ at → unknown_at new i ≡ u = λ i same. rw same (ap unknown (get_or-insert_at ts at (u, t) (0, pos 0) gap.in_range)) in
      let above : (i : ℕ) → at < i → unknown_at new i ≡ unknown_at ts (i - 1) = λ i gt. subst (λ q. unknown_at new q ≡ unknown_at ts (i - 1)) {x = i - 1 + 1} (omega arith) (ap unknown (get_or-insert_above ts at (u, t) (0, pos 0) (i - 1) (omega arith) gap.in_range)) in
      let number_below : (i : ℕ) → i < at → number_at new i ≡ number_at ts i = λ i lt. ap number (get_or-insert_below ts at (u, t) (0, pos 0) i lt gap.in_range) in
      let number_here : (i : ℕ) → i ≡ at → number_at new i ≡ t = λ i same. rw same (ap number (get_or-insert_at ts at (u, t) (0, pos 0) gap.in_range)) in
      let number_above : (i : ℕ) → at < i → number_at new i ≡ number_at ts (i - 1) = λ i gt. subst (λ q. number_at new q ≡ number_at ts (i - 1)) {x = i - 1 + 1} (omega arith) (ap number (get_or-insert_above ts at (u, t) (0, pos 0) (i - 1) (omega arith) gap.in_range)) in
      record {
        ascending = λ i j lt in_range. grind (arith, below i, here i, above i, below j, here j, above j, sparse.ascending i j, sparse.ascending i (j - 1), sparse.ascending (i - 1) (j - 1), gap.lesser_before i, gap.greater_after (j - 1));
        none_zero = λ i in_range. grind (arith, number_below i, number_here i, number_above i, sparse.none_zero i, sparse.none_zero (i - 1));
      }

-- the two tests of whether a number is 0
is_zero : (c : ℤ) → true ≡ int_eq c (pos 0) → c ≡ pos 0
is_zero c e = grind (arith, nat_tests)

not_zero : (c : ℤ) → false ≡ int_eq c (pos 0) → c ≢ pos 0
not_zero c e = grind (arith, nat_tests)

module _ (ts : Terms) (sparse : IsSparse ts) (u at : ℕ) (is_at : IsAt ts u at) where
  sparse_by : (c : ℤ) (b : Bool) → b ≡ int_eq c (pos 0) → IsSparse (if b then remove ts at else set ts at (unknown_at ts at, c))
  sparse_by c true e = sparse_remove ts sparse at is_at.in_range
  sparse_by c false e = rw is_at.has_unknown (sparse_set ts sparse u at is_at c (not_zero c e))

  adds_by : (t : ℤ) (b : Bool) → b ≡ int_eq (number_at ts at +ℤ t) (pos 0) → AddsAt u t ts (if b then remove ts at else set ts at (unknown_at ts at, number_at ts at +ℤ t))
  adds_by t true e = adds_remove ts sparse u at is_at t (is_zero _ e)
  adds_by t false e = rw is_at.has_unknown (adds_set ts sparse u at is_at _ t refl)

  -- the term that stood there, with t more
  pub sparse_added : (t : ℤ) (new : Terms) (r : Result (Unit {0}) RowFault) → OnOk r (new ≡ with_number ts at (number_at ts at +ℤ t)) → OnErr r (new ≡ ts) → IsSparse new
  sparse_added t new (Ok d) ok err = rw ok (sparse_by (number_at ts at +ℤ t) (int_eq (number_at ts at +ℤ t) (pos 0)) refl)
  sparse_added t new (Err f) ok err = rw err sparse

  pub adds_added : (t : ℤ) (new : Terms) (r : Result (Unit {0}) RowFault) → OnOk r (new ≡ with_number ts at (number_at ts at +ℤ t)) → OnOk r (AddsAt u t ts new)
  adds_added t new (Ok d) ok = rw ok (adds_by t (int_eq (number_at ts at +ℤ t) (pos 0)) refl)
  adds_added t new (Err f) ok = tt

module _ (ts : Terms) (sparse : IsSparse ts) (u at : ℕ) (gap : IsGapFor ts u at) where
  sparse_in : (c : ℤ) (b : Bool) → b ≡ int_eq c (pos 0) → IsSparse (if b then ts else insert ts at (u, c))
  sparse_in c true e = sparse
  sparse_in c false e = sparse_insert ts u at gap c (not_zero c e) sparse

  adds_in : (t : ℤ) (b : Bool) → b ≡ int_eq t (pos 0) → AddsAt u t ts (if b then ts else insert ts at (u, t))
  adds_in t true e = let z = is_zero t e in record { this = omega (arith, ints); others = λ v differs. refl }
  adds_in t false e = adds_insert ts u at gap t

  -- a new term
  pub sparse_inserted : (t : ℤ) (new : Terms) (r : Result (Unit {0}) RowFault) → OnOk r (new ≡ with_term ts at u t) → OnErr r (new ≡ ts) → IsSparse new
  sparse_inserted t new (Ok d) ok err = rw ok (sparse_in t (int_eq t (pos 0)) refl)
  sparse_inserted t new (Err f) ok err = rw err sparse

  pub adds_inserted : (t : ℤ) (new : Terms) (r : Result (Unit {0}) RowFault) → OnOk r (new ≡ with_term ts at u t) → OnOk r (AddsAt u t ts new)
  adds_inserted t new (Ok d) ok = rw ok (adds_in t (int_eq t (pos 0)) refl)
  adds_inserted t new (Err f) ok = tt

-- what holds of every error holds of this one, and what holds anyway holds of an answer
pub of_error : (X : Type 0) (r : Result (Unit {0}) RowFault) (f : RowFault) → OnErr r X → r ≡ Err f → X
of_error X (Ok d) f h e = absurd (cc)
of_error X (Err g) f h e = h

pub of_answer : (X : Type 0) (r : Result (Unit {0}) RowFault) → X → OnOk r X
of_answer X (Ok d) h = h
of_answer X (Err g) h = tt

pub zero_plus : (t : ℤ) → pos 0 +ℤ t ≡ t
zero_plus t = omega (arith, ints)
