-- Where a column is among whole numbers whose columns ascend.
use Rattle.std.proofs.Common.{◌≡◌, ◌≢◌, refl, sym, ap, subst, ◌∙◌, ℕ, zero, suc, ◌<◌, ◌≤◌, length, [], ◌∷◌, get_or, arith, pos, ℤ, true, false, ◌==◌, nat_lt, Some, None, ◌⊎◌, inl, inr, Ok, Err}
use Rattle.std.proofs.lemmas.Bool.Decides.{nat_tests}
use Rattle.std.proofs.lemmas.Cmp.{ranked}
use Rattle.std.proofs.lemmas.List.{get_or_default}
use Rattle.std.proofs.lemmas.List.Sorted.{IsNonDecreasingBy-from_default}
use Rattle.std.specs.List.Sorted.{IsSearchInRange, IsBinarySearchResult, IsNonDecreasingBy, IsPartitionedBy, IsPartitionPoint}
use Rattle.std.specs.Ordering.{nat_cmp, ordering_index}
use Rattle.simplex_rows.specs.ShortRows.{Wholes, whole_at, AscendsFrom, IsNextWhole}

-- the number and its column at a place
abbrev pub whole_entry_at : Wholes → ℕ → ℕ × ℤ
whole_entry_at es i = get_or es i (0, pos 0)

abbrev pub entry_column : Wholes → ℕ → ℕ
entry_column es i = let e = whole_entry_at es i in e.0

abbrev pub entry_number : Wholes → ℕ → ℤ
entry_number es i = let e = whole_entry_at es i in e.1

pub columns_from : (b : ℕ) (es : Wholes) (i : ℕ) → AscendsFrom b es → i < length es → b ≤ entry_column es i
columns_from b [] i s h = absurd (omega arith)
columns_from b (e ∷ es) zero s h = s.0
columns_from b (e ∷ es) (suc i) s h = let n = s.0 in let m = columns_from (suc e.0) es i s.2 (omega arith) in omega arith

columns_ascend : (b : ℕ) (es : Wholes) (i j : ℕ) → AscendsFrom b es → i ≤ j → j < length es → entry_column es i ≤ entry_column es j
columns_ascend b [] i j s l h = absurd (omega arith)
columns_ascend b (e ∷ es) zero zero s l h = omega arith
columns_ascend b (e ∷ es) zero (suc j) s l h = let m = columns_from (suc e.0) es j s.2 (omega arith) in omega arith
columns_ascend b (e ∷ es) (suc i) zero s l h = absurd (omega arith)
columns_ascend b (e ∷ es) (suc i) (suc j) s l h = columns_ascend (suc e.0) es i j s.2 (omega arith) (omega arith)

-- the number in the place of a column
pub present : (b : ℕ) (es : Wholes) (i : ℕ) → AscendsFrom b es → i < length es → whole_at (entry_column es i) es ≡ entry_number es i
present b [] i s h = absurd (omega arith)
present b (e ∷ es) zero s h = let t : (e.0 == e.0) ≡ true = grind (arith, nat_tests) in rw t refl
present b (e ∷ es) (suc i) s h =
    let m = columns_from (suc e.0) es i s.2 (omega arith) in
    let t : (e.0 == entry_column es i) ≡ false = grind (arith, nat_tests) in
    rw t (present (suc e.0) es i s.2 (omega arith))

not_zero : (b : ℕ) (es : Wholes) (i : ℕ) → AscendsFrom b es → i < length es → entry_number es i ≢ pos 0
not_zero b [] i s h = absurd (omega arith)
not_zero b (e ∷ es) zero s h = s.1
not_zero b (e ∷ es) (suc i) s h = not_zero (suc e.0) es i s.2 (omega arith)

absent : (es : Wholes) (c : ℕ) → ((i : ℕ) → i < length es → entry_column es i ≢ c) → whole_at c es ≡ pos 0
absent [] c n = refl
absent (e ∷ es) c n =
    let z = n 0 (omega arith) in
    let t : (e.0 == c) ≡ false = grind (arith, nat_tests) in
    rw t (absent es c (λ i h. n (suc i) (omega arith)))

below_or_not : (m n : ℕ) → (m < n) ⊎ (n ≤ m)
below_or_not m n = grind arith

module _ (es : Wholes) (sparse : AscendsFrom 0 es) where
  comparisons_rise : (c : ℕ) → IsNonDecreasingBy (λ e. ordering_index (nat_cmp e.0 c)) es
  comparisons_rise c = IsNonDecreasingBy-from_default (λ e. ordering_index (nat_cmp e.0 c)) es (0, pos 0) (λ i j le in_range.
      let rise : entry_column es i ≤ entry_column es j = columns_ascend 0 es i j sparse le in_range in
      grind (arith, nat_tests))

  -- where a column is
  pub found : (c i : ℕ) → IsSearchInRange (Ok i) (length es) → IsBinarySearchResult (λ e. nat_cmp e.0 c) es (Ok i) → whole_at c es ≡ entry_number es i
  found c i in_range equal =
      let e : entry_column es i ≡ c = ranked _ c _ (sym (equal (0, pos 0))) in
      subst (λ k. whole_at k es ≡ entry_number es i) e (present 0 es i sparse in_range)

  pub missing : (c i : ℕ) → IsBinarySearchResult (λ e. nat_cmp e.0 c) es (Err i) → whole_at c es ≡ pos 0
  missing c i parted = absent es c (λ j h e. elim (below_or_not j i) [
    | inl l ↦ let z = ranked _ c _ (sym ((parted (comparisons_rise c)).0 j (0, pos 0) (omega arith) l)) in omega arith
    | inr g ↦ let z = ranked _ c _ (sym ((parted (comparisons_rise c)).1 j (0, pos 0) g h)) in omega arith
  ])

  -- the columns before one come first
  pub parted_by : (from : ℕ) → IsPartitionedBy (λ e. nat_lt e.0 from) es
  parted_by from i j d le in_range before =
      let rise : entry_column es i ≤ entry_column es j = columns_ascend 0 es i j sparse le in_range in
      let same_i = get_or_default es i d (0, pos 0) (omega arith) in
      let same_j = get_or_default es j d (0, pos 0) in_range in
      rw same_i (let l : nat_lt (entry_column es j) from ≡ true = rw same_j at before in grind (arith, nat_tests))

  -- the number in the place of a column, as the code reads it
  pub in_place : (i : ℕ) (e : ℕ × ℤ) → i < length es → e ≡ get_or es i e → whole_at e.0 es ≡ e.1
  in_place i e in_range is =
      let here : e ≡ whole_entry_at es i = is ∙ get_or_default es i e (0, pos 0) in_range in
      subst (λ (d : ℕ × ℤ). whole_at d.0 es ≡ d.1) (sym here) (present 0 es i sparse in_range)

  -- the column after those before from, as the code reads it
  pub none_next : (from i : ℕ) → IsPartitionPoint (λ e. nat_lt e.0 from ≡ true) (λ e. nat_lt e.0 from ≡ false) es i → length es ≤ i → IsNextWhole from es None
  none_next from i parted past k le = absent es k (λ j h e. let z : nat_lt (entry_column es j) from ≡ true = parted.0 j (0, pos 0) (omega arith) (omega arith) in grind (arith, nat_tests))

  pub next : (from i : ℕ) (e : ℕ × ℤ) → IsPartitionPoint (λ e. nat_lt e.0 from ≡ true) (λ e. nat_lt e.0 from ≡ false) es i → i < length es → e ≡ get_or es i e → IsNextWhole from es (Some e.0)
  next from i e parted inside is =
      let here : e.0 ≡ entry_column es i = ap (λ (d : ℕ × ℤ). d.0) (is ∙ get_or_default es i e (0, pos 0) inside) in
      let z : nat_lt (entry_column es i) from ≡ false = parted.1 i (0, pos 0) (omega arith) inside in (
        grind (arith, nat_tests),
        rw (here, present 0 es i sparse inside) (not_zero 0 es i sparse inside),
        λ k le lt. absent es k (λ j h g. elim (below_or_not j i) [
          | inl l ↦ let y : nat_lt (entry_column es j) from ≡ true = parted.0 j (0, pos 0) (omega arith) l in grind (arith, nat_tests)
          | inr m ↦ let rise = columns_ascend 0 es i j sparse m h in omega arith
        ]),
      )
