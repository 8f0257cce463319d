-- The powers of a polynomial over shallow parameters keep its worth: it counts as one over lists of numbers.
use Rattle.std.proofs.Common.{◌≡◌, ◌≤◌, ◌+◌, ◌*◌, ◌/◌, ℕ, zero, suc, pos, ◌+ℤ◌, ◌*ℤ◌, get_or, true, List, [], ◌∷◌, map, length, replicate, All, refl, sym, ap, ◌∙◌, arith}
use Rattle.std.proofs.lemmas.List.Elements.{All-head, All-tail, All-map}
use Rattle.raml_syntax.specs.Tree.{Type', Integer, Boolean, PairOf, ListOf, TreeOf, OptionOf}
use Rattle.raml_syntax.specs.Value.{Value, Has, HaveTypes}
use Rattle.base_poly.specs.Plain.{Plain, Unit', Pair, End, Then, NoEntry, OneEntry, deg, degrees, entry_count}
use Rattle.base_poly.specs.Indices.{IsIndex, AreIndices, zero_of}
use Rattle.base_poly.specs.Base.{base, bases}
use Rattle.base_poly.specs.Poly.{Term}
use Rattle.poly_point.specs.Point.{worth}
use Rattle.bound_compare.specs.Laws.{picks}
use Rattle.bound_compare.specs.Powers.{Powers, are_flat, counts, factorials, fallings, power_at, ArePowers}
use Rattle.bound_compare.proofs.Kept.{powers_keep_worth}
use Rattle.bound_compare.proofs.Listed.{index_picks, counts_picks}
use Rattle.bound_compare.proofs.Ranked.{degree_picks}
use Rattle.explain_algebra.specs.Laws.{holds_no_size, is_shallow, are_shallow, PowersAreWorth}
use Rattle.explain_algebra.proofs.Counting.{both, count_as_numbers}

-- the tuple that picks as many elements of lists of numbers
abbrev picked : List Plain → List Plain
picked t = map picks (counts t)

abbrev all_picked : List Term → List Term
all_picked ts = map (λ t. (picked t.0, t.1)) ts

abbrev numbers : ℕ → List Type'
numbers n = replicate n (ListOf Integer)

numbers_are_flat : (n : ℕ) → are_flat (numbers n) ≡ true
numbers_are_flat zero = refl
numbers_are_flat (suc n) = numbers_are_flat n

are_picked : (t : List Plain) (As : List Type') → AreIndices t As → AreIndices (picked t) (numbers (length As))
are_picked [] [] m = tt
are_picked (i ∷ t) (A ∷ As) m = (index_picks (entry_count i), are_picked t As m.1)
are_picked [] (A ∷ As) m = absurd m
are_picked (i ∷ t) [] m = absurd m

few_entries : (i : Plain) → entry_count i ≤ deg i
few_entries Unit' = omega arith
few_entries (Pair i j) = omega arith
few_entries End = omega arith
few_entries (Then i r) = let more = few_entries r in omega (arith, more)
few_entries NoEntry = omega arith
few_entries (OneEntry i) = omega arith

low_picked : (t : List Plain) → degrees (picked t) ≤ degrees t
low_picked [] = omega arith
low_picked (i ∷ t) = let one = few_entries i in let rest = low_picked t in let same = degree_picks (entry_count i) in omega (arith, one, rest, same)

-- what holds no size picks nothing
none_of_zero : (A : Type') → holds_no_size A ≡ true → entry_count (zero_of A) ≡ 0
none_of_zero Integer h = refl
none_of_zero Boolean h = refl
none_of_zero (PairOf A B) h = refl
none_of_zero (ListOf A) h = cc
none_of_zero (TreeOf A) h = cc
none_of_zero (OptionOf A) h = cc

counts_one : (A : Type') (i : Plain) (v : Value) → holds_no_size A ≡ true → IsIndex i A → Has v A → base i v ≡ base (picks (entry_count i)) v
counts_one A i v h m t =
    let one = count_as_numbers.elements A h in
    let zero = one.only i m in
    ap (λ j. base j v) zero ∙ one.one v t ∙ sym (ap (λ k. base (picks k) v) (ap entry_count zero ∙ none_of_zero A h))

counts_alike : (A : Type') (i : Plain) (v : Value) → is_shallow A ≡ true → IsIndex i A → Has v A → base i v ≡ base (picks (entry_count i)) v
counts_alike (ListOf A) i v h m t = count_as_numbers.lists A h i v m t
counts_alike (TreeOf A) i v h m t = count_as_numbers.trees A h i v m t
counts_alike Integer i v h m t = counts_one Integer i v h m t
counts_alike Boolean i v h m t = counts_one Boolean i v h m t
counts_alike (PairOf A B) i v h m t = counts_one (PairOf A B) i v h m t
counts_alike (OptionOf A) i v h m t = cc

tuples_alike : (As : List Type') (t : List Plain) (vs : List Value) → are_shallow As ≡ true → AreIndices t As → HaveTypes vs As → bases t vs ≡ bases (picked t) vs
tuples_alike [] [] vs h m have = refl
tuples_alike [] (i ∷ t) vs h m have = absurd m
tuples_alike (A ∷ As) [] vs h m have = absurd m
tuples_alike (A ∷ As) (i ∷ t) [] h m have = absurd have
tuples_alike (A ∷ As) (i ∷ t) (v ∷ vs) h m have =
    let each = both (is_shallow A) (are_shallow As) h in
    let one = counts_alike A i v each.0 m.0 have.0 in
    let rest = tuples_alike As t vs each.1 m.1 have.1 in
    λ n. one n * rest n

module _ (As : List Type') (shallow : are_shallow As ≡ true) where
  worth_alike : (ts : List Term) (vs : List Value) → All (λ t. AreIndices t.0 As) ts → HaveTypes vs As → worth ts vs ≡ worth (all_picked ts) vs
  worth_alike [] vs m have = refl
  worth_alike (t ∷ ts) vs m have =
      let one = tuples_alike As t.0 vs shallow (All-head (λ t. AreIndices t.0 As) t ts m) have in
      let rest = worth_alike ts vs (All-tail (λ t. AreIndices t.0 As) t ts m) have in
      λ n. t.1 * one n + rest n

  indices_alike : (ts : List Term) → All (λ t. AreIndices t.0 As) ts → All (λ t. AreIndices t.0 (numbers (length As))) (all_picked ts)
  indices_alike ts m = All-map (λ t. AreIndices t.0 (numbers (length As))) (λ t. (picked t.0, t.1)) ts (λ k d h. are_picked (get_or ts k d).0 As (m k d h))

  low_alike : (ts : List Term) → All (λ t. degrees t.0 ≤ 4) ts → All (λ t. degrees t.0 ≤ 4) (all_picked ts)
  low_alike ts m = All-map (λ t. degrees t.0 ≤ 4) (λ t. (picked t.0, t.1)) ts (λ k d h. let few = low_picked (get_or ts k d).0 in let low = m k d h in omega (arith, few, low))

power_alike : (es : List ℕ) (ts : List Term) → power_at es (all_picked ts) ≡ power_at es ts
power_alike es [] = refl
power_alike es (t ∷ ts) =
    let same = counts_picks (counts t.0) in
    let rest = power_alike es ts in
    λ n. pos t.1 *ℤ (pos (24 / factorials (same n)) *ℤ fallings (same n) es) +ℤ rest n

powers_alike : (ts : List Term) (ps : Powers) → ArePowers ts ps → ArePowers (all_picked ts) ps
powers_alike ts ps are = record { nonzero = are.nonzero; ascends = are.ascends; each = λ es. are.each es ∙ sym (power_alike es ts) }

same_count : (vs : List Value) (As : List Type') → HaveTypes vs As → length vs ≡ length (numbers (length As))
same_count [] [] have = refl
same_count (v ∷ vs) (A ∷ As) have = ap suc (same_count vs As have.1)
same_count [] (A ∷ As) have = absurd have
same_count (v ∷ vs) [] have = absurd have

pub powers_are_worth : PowersAreWorth
powers_are_worth As ts ps shallow own low are vs have =
    powers_keep_worth (numbers (length As)) (all_picked ts) ps (numbers_are_flat (length As)) (indices_alike As shallow ts own) (low_alike As shallow ts low) (powers_alike ts ps are) vs (same_count vs As have)
    ∙ ap (λ w. pos (24 * w)) (sym (worth_alike As shallow ts vs own have))
