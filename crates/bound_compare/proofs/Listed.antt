-- The powers that are found by going through the exponents.
use Rattle.std.proofs.Common.{◌≡◌, ◌≤◌, ◌<◌, ◌/◌, ℕ, zero, suc, ℤ, pos, negsuc, ◌+ℤ◌, ◌-ℤ◌, ◌*ℤ◌, Bool, true, false, not, cond, List, [], ◌∷◌, map, filter, replicate, length, All, ⊎_elim, refl, sym, ap, ◌∙◌, subst, arith}
use Rattle.std.specs.Prelude.{nat_le}
use Rattle.std.specs.declared.cmp.Ordering.{Ordering}
use Rattle.std.specs.Str.{bytes_eq}
use Rattle.std.proofs.lemmas.List.Elements.{All-nil, All-cons, All-head, All-tail}
use Rattle.std.proofs.lemmas.List.Recursion.{is_sum_by}
use Rattle.std.proofs.lemmas.Slice.Eq.{bytes_eq-Decides}
use Rattle.std.proofs.lemmas.Bool.{leb-true, leb-false}
use Rattle.raml_syntax.specs.Tree.{Type', Integer, ListOf}
use Rattle.base_poly.specs.Plain.{Plain, degrees, entry_count}
use Rattle.base_poly.specs.Indices.{IsIndex, AreIndices, Ascends, tuple_order, index_list}
use Rattle.base_poly.specs.Poly.{Term}
use Rattle.base_poly.proofs.Among.{Among, contains_among, among_contains, mapped_among, ascends_as, ascends_made, ascends_kept}
use Rattle.base_poly.proofs.Exact.{exact}
use Rattle.bound_compare.specs.Laws.{picks, PowersAreThese}
use Rattle.bound_compare.specs.Powers.{Powers, falling, fallings, factorials, counts, brings, power_at, exponent_order, listed_at, exponents_of, is_zero, powers_of, ArePowers}
use Rattle.bound_compare.proofs.Alone.{powers_are_one}
use Rattle.bound_compare.proofs.Counts.{adds, counts_add}
use Rattle.bound_compare.proofs.Expanded.{times_zero, zero_times}
use Rattle.bound_compare.proofs.Grouped.{IsNonzero}
use Rattle.bound_compare.proofs.Kept.{list_units}
use Rattle.bound_compare.proofs.Ranked.{degrees_picks, exponents_are_ordered}
use Rattle.bound_compare.proofs.Weights.{has}

-- the tuples of lists of integers pick elements

pub index_picks : (n : ℕ) → IsIndex (picks n) (ListOf Integer)
index_picks zero = tt
index_picks (suc n) = (tt, index_picks n)

indices_picks : (es : List ℕ) → AreIndices (map picks es) (replicate (length es) (ListOf Integer))
indices_picks [] = tt
indices_picks (e ∷ es) = (index_picks e, indices_picks es)

count_picks : (n : ℕ) → entry_count (picks n) ≡ n
count_picks zero = refl
count_picks (suc n) = ap suc (count_picks n)

pub counts_picks : (es : List ℕ) → counts (map picks es) ≡ es
counts_picks [] = refl
counts_picks (e ∷ es) = λ i. count_picks e i ∷ counts_picks es i

picked : (p : ℕ) (t : List Plain) → AreIndices t (replicate p (ListOf Integer)) → t ≡ map picks (counts t)
picked zero [] h = refl
picked zero (i ∷ t) h = absurd h
picked (suc p) [] h = absurd h
picked (suc p) (i ∷ t) h = λ n. list_units Integer i refl h.0 n ∷ picked p t h.1 n

module _ (p : ℕ) where
  abbrev context : List Type'
  context = replicate p (ListOf Integer)

  abbrev tuples : List (List Plain)
  tuples = index_list context 4

  own : (t : List Plain) → Among t tuples → t ≡ map picks (counts t)
  own t m = picked p t (((exact context 4).exactly t).0 (among_contains t tuples m)).0

  ascending : Ascends exponent_order (exponents_of p)
  ascending =
      ascends_made by_counts exponent_order counts (λ t u. refl) tuples
      (ascends_as tuple_order by_counts tuples (λ t u m n. exponents_are_ordered (counts t) (counts u) ∙ (λ i. tuple_order (sym (own t m) i) (sym (own u n) i))) (exact context 4).ascends)
    where
      by_counts : List Plain → List Plain → Ordering
      by_counts t u = exponent_order (counts t) (counts u)

  among : (es : List ℕ) → length es ≡ p → adds es ≤ 4 → Among es (exponents_of p)
  among es e l =
      let indices = subst (λ n. AreIndices (map picks es) (replicate n (ListOf Integer))) e (indices_picks es) in
      let low : degrees (map picks es) ≤ 4 = let same = degrees_picks es in let sum = is_sum_by adds (λ x. x) refl (λ _ _. refl) es in omega (arith, l, same, sum) in
      let there = contains_among (map picks es) tuples (((exact context 4).exactly (map picks es)).1 (indices, low)) in
      subst (λ k. Among k (exponents_of p)) (counts_picks es) (mapped_among counts (map picks es) tuples there)

-- what is shown of exponents: those whose number is not 0

module _ (g : List ℕ → ℤ) where
  abbrev shown : List (List ℕ) → Powers
  shown ess = filter (λ x. not (is_zero x.1)) (map (λ es. (es, g es)) ess)

  shown_ascends : (ess : List (List ℕ)) → Ascends exponent_order ess → Ascends exponent_order (map (λ x. x.0) (shown ess))
  shown_ascends ess h =
      ascends_made by_key exponent_order (λ x. x.0) (λ x y. refl) (shown ess)
      (ascends_kept by_key (λ x. not (is_zero x.1)) (map (λ es. (es, g es)) ess) (ascends_made exponent_order by_key (λ es. (es, g es)) (λ x y. refl) ess h))
    where
      by_key : List ℕ × ℤ → List ℕ × ℤ → Ordering
      by_key x y = exponent_order x.0 y.0

  shown_nonzero : (ess : List (List ℕ)) → All IsNonzero (shown ess)
  shown_nonzero [] = All-nil IsNonzero
  shown_nonzero (k ∷ ess) = by (shown_nonzero ess) (is_zero (g k)) refl
    where
      apart : (x : ℤ) → is_zero x ≡ false → x ≡ pos 0 → ⊥
      apart x e z = no (sym e ∙ ap is_zero z)
        where
          no : false ≡ true → ⊥
          no q = cc

      by : All IsNonzero (shown ess) → (b : Bool) → is_zero (g k) ≡ b → All IsNonzero (cond (not b) ((k, g k) ∷ shown ess) (shown ess))
      by more true e = more
      by more false e = All-cons IsNonzero (k, g k) (shown ess) (apart (g k) e) more

  zero_is : (x : ℤ) → is_zero x ≡ true → x ≡ pos 0
  zero_is (pos zero) e = refl
  zero_is (pos (suc n)) e = cc
  zero_is (negsuc n) e = cc

  shown_at : (es : List ℕ) (ess : List (List ℕ)) → listed_at es (shown ess) ≡ cond (has es ess) (g es) (pos 0)
  shown_at es [] = refl
  shown_at es (k ∷ ess) = by (shown_at es ess) (is_zero (g k)) refl (bytes_eq es k) refl
    where
      by : listed_at es (shown ess) ≡ cond (has es ess) (g es) (pos 0) → (b : Bool) → is_zero (g k) ≡ b → (c : Bool) → bytes_eq es k ≡ c →
          listed_at es (cond (not b) ((k, g k) ∷ shown ess) (shown ess)) ≡ cond (cond c true (has es ess)) (g es) (pos 0)
      by more true z true e =
          let none : g es ≡ pos 0 = ap g ((bytes_eq-Decides es k).0 e) ∙ zero_is (g k) z in
          more ∙ ap (λ x. cond (has es ess) x (pos 0)) none ∙ both (has es ess) ∙ sym none
        where
          both : (t : Bool) → cond t (pos 0) (pos 0) ≡ pos 0
          both true = refl
          both false = refl
      by more true z false e = more
      by more false z true e = ap (λ t. cond t (g k) (listed_at es (shown ess))) e ∙ ap g (sym ((bytes_eq-Decides es k).0 e))
      by more false z false e = ap (λ t. cond t (g k) (listed_at es (shown ess))) e ∙ more

has_among : (es : List ℕ) (ess : List (List ℕ)) → Among es ess → has es ess ≡ true
has_among es [] m = absurd m
has_among es (k ∷ ess) m = ⊎_elim
    (λ e. ap (λ t. cond t true (has es ess)) ((bytes_eq-Decides es k).1 (sym e)))
    (λ n. either (bytes_eq es k) (has_among es ess n)) m
  where
    either : (t : Bool) → has es ess ≡ true → cond t true (has es ess) ≡ true
    either true h = refl
    either false h = h

-- all other exponents have the number 0

falling_none : (k e : ℕ) → k < e → falling k e ≡ pos 0
falling_none zero zero l = absurd (omega (arith, l))
falling_none zero (suc e) l = refl
falling_none (suc k) zero l = absurd (omega (arith, l))
falling_none (suc k) (suc e) l =
    let one = falling_none k e (omega (arith, l)) in
    let next = falling_none k (suc e) (omega (arith, l)) in
    (λ i. one i -ℤ pos k *ℤ next i) ∙ ap (λ x. pos 0 -ℤ x) (times_zero (pos k))

fallings_none : (ks es : List ℕ) → (length es ≡ length ks → adds ks < adds es) → fallings ks es ≡ pos 0
fallings_none [] [] h = absurd (let no = h refl in omega (arith, no))
fallings_none [] (e ∷ es) h = refl
fallings_none (k ∷ ks) [] h = refl
fallings_none (k ∷ ks) (e ∷ es) h = by (fallings_none ks es) (nat_le e k) refl
  where
    by : ((length es ≡ length ks → adds ks < adds es) → fallings ks es ≡ pos 0) → (b : Bool) → nat_le e k ≡ b → falling k e *ℤ fallings ks es ≡ pos 0
    by more true q =
        let low = leb-true e k q in
        ap (λ x. falling k e *ℤ x) (more (λ s. let less = h (ap suc s) in omega (arith, less, low))) ∙ times_zero (falling k e)
    by more false q = ap (λ x. x *ℤ fallings ks es) (falling_none k e (leb-false e k q)) ∙ zero_times (fallings ks es)

counts_long : (As : List Type') (t : List Plain) → AreIndices t As → length (counts t) ≡ length As
counts_long [] [] h = refl
counts_long [] (i ∷ t) h = absurd h
counts_long (A ∷ As) [] h = absurd h
counts_long (A ∷ As) (i ∷ t) h = ap suc (counts_long As t h.1)

abbrev IsOwnTerm : List Type' → Term → Type 0
IsOwnTerm As t = AreIndices t.0 As

abbrev IsLowTerm : Term → Type 0
IsLowTerm t = degrees t.0 ≤ 4

module _ (As : List Type') (es : List ℕ) (far : length es ≡ length As → 4 < adds es) where
  brings_none : (t : Term) → IsOwnTerm As t → IsLowTerm t → brings es t ≡ pos 0
  brings_none t own low =
      let none = fallings_none (counts t.0) es (λ s. let less = far (s ∙ counts_long As t.0 own) in let most = counts_add t.0 in omega (arith, less, most, low)) in
      ap (λ x. pos t.1 *ℤ (pos (24 / factorials (counts t.0)) *ℤ x)) none ∙ ap (λ x. pos t.1 *ℤ x) (times_zero (pos (24 / factorials (counts t.0)))) ∙ times_zero (pos t.1)

  power_none : (ts : List Term) → All (IsOwnTerm As) ts → All IsLowTerm ts → power_at es ts ≡ pos 0
  power_none [] own low = refl
  power_none (t ∷ ts) own low = λ i.
      brings_none t (All-head (IsOwnTerm As) t ts own) (All-head IsLowTerm t ts low) i +ℤ power_none ts (All-tail (IsOwnTerm As) t ts own) (All-tail IsLowTerm t ts low) i

outside : (As : List Type') (es : List ℕ) → has es (exponents_of (length As)) ≡ false → length es ≡ length As → 4 < adds es
outside As es h s = by (nat_le (adds es) 4) refl
  where
    no : true ≡ false → ⊥
    no q = cc

    by : (b : Bool) → nat_le (adds es) 4 ≡ b → 4 < adds es
    by true q = absurd (no (sym (has_among es (exponents_of (length As)) (among (length As) es s (leb-true (adds es) 4 q))) ∙ h))
    by false q = leb-false (adds es) 4 q

pub powers_are_these : PowersAreThese
powers_are_these As ts own low = record {
  nonzero = shown_nonzero (λ es. power_at es ts) (exponents_of (length As));
  ascends = shown_ascends (λ es. power_at es ts) (exponents_of (length As)) (ascending (length As));
  each = λ es. shown_at (λ k. power_at k ts) es (exponents_of (length As)) ∙ by es (has es (exponents_of (length As))) refl;
}
  where
    by : (es : List ℕ) → (b : Bool) → has es (exponents_of (length As)) ≡ b → cond b (power_at es ts) (pos 0) ≡ power_at es ts
    by es true e = refl
    by es false e = sym (power_none As es (outside As es e) ts own low)

-- so the powers of a sum of terms are these
pub these : (As : List Type') (ts : List Term) (ps : Powers) → All (IsOwnTerm As) ts → All IsLowTerm ts → ArePowers ts ps → ps ≡ powers_of (length As) ts
these As ts ps own low h = powers_are_one ts ps (powers_of (length As) ts) h (powers_are_these As ts own low)
