-- From the terms of a polynomial to its powers.
use Rattle.std.proofs.Common.{◌≡◌, ◌≤◌, ◌<◌, ◌+◌, ◌*◌, ◌/◌, ◌^◌, ℕ, suc, ℤ, pos, negsuc, ◌-ℤ◌, ◌*ℤ◌, false, cond, List, [], ◌∷◌, flat_map, All, ◌⊎◌, ⊎_elim, inl, inr, ◌-◌, refl, sym, ap, ◌∙◌, arith, slice_index_or, Result, Ok, Err, IsErrAnd, IfOk, OnOk}
use Rattle.std.specs.declared.cmp.Ordering.{Ordering}
use Rattle.std.specs.declared.cmp.Ordering.TheVariants.{Less, Equal, Greater}
use Rattle.std.specs.Ordering.{ordering_then, ordering_reverse, is_lt, is_gt, nat_cmp}
use Rattle.std.specs.List.Sorted.{IsPermutation, IsSorted}
use Rattle.std.specs.Str.{bytes_eq}
use Rattle.std.proofs.lemmas.Int.{ints}
use Rattle.std.proofs.lemmas.List.Elements.{All-nil, All-cons, All-contains}
use Rattle.std.proofs.lemmas.List.Recursion.{is_sum_by}
use Rattle.std.proofs.lemmas.List.Sorted.{sum_by-IsPermutation}
use Rattle.std.proofs.lemmas.Cmp.{upto}
use Rattle.std.proofs.lemmas.Slice.Eq.{bytes_eq-Decides}
use Rattle.base_poly.specs.Plain.{degrees}
use Rattle.base_poly.specs.Base.{total}
use Rattle.base_poly.specs.Poly.{Term}
use Rattle.base_poly.proofs.Among.{Among, among_contains}
use Rattle.base_poly.proofs.Sums.{total_map, total_parts, total_same}
use Rattle.bound_compare.specs.Order.{exponents_total}
use Rattle.bound_compare.specs.Powers.{counts, factorials, fallings, brings, power_at, above, below, positive, negative, exponent_order, ArePowers, Fits, Leaves, by_den, by_positive, by_negative}
use Rattle.bound_compare.specs.Laws.{FitsOrLeaves}
use Rattle.bound_compare.specs.Steps.{Part, capped, parts_of, expansion, joined, numbers, AreSmall, HasLarge}
use Rattle.bound_compare.proofs.Counts.{counts_low}
use Rattle.bound_compare.proofs.Expanded.{expanded, above_scaled, below_scaled}
use Rattle.bound_compare.proofs.Grouped.{at, up, down, up_is, down_is, UpTo, Rises, Climbs, joined_sums, joined_climb, numbers_ascend, numbers_nonzero, numbers_at, at_most_one}

-- What the parts of the terms add up to

capped_total : {X : Type 0} (f : X → ℕ) (xs : List X) → capped (total (λ x. capped (f x)) xs) ≡ capped (total f xs)
capped_total f [] = refl
capped_total f (x ∷ xs) = let more = capped_total f xs in omega (arith, more)

parts_up : (es : List ℕ) (t : Term) → degrees t.0 ≤ 4 → at up es (parts_of t) ≡ capped (above (brings es t))
parts_up es t h =
    let s = 24 / factorials (counts t.0) in
    total_map (λ p. cond (bytes_eq es p.0) (up p.1) 0) (λ p. (p.0, (capped (t.1 * (s * above p.1)), capped (t.1 * (s * below p.1))))) (expansion (counts t.0))
    ∙ expanded (λ x. capped (t.1 * (s * above x))) (omega arith) (counts t.0) es (counts_low t.0 h)
    ∙ ap capped (ap (λ n. t.1 * n) (sym (above_scaled s (fallings (counts t.0) es))) ∙ sym (above_scaled t.1 (pos s *ℤ fallings (counts t.0) es)))

parts_down : (es : List ℕ) (t : Term) → degrees t.0 ≤ 4 → at down es (parts_of t) ≡ capped (below (brings es t))
parts_down es t h =
    let s = 24 / factorials (counts t.0) in
    total_map (λ p. cond (bytes_eq es p.0) (down p.1) 0) (λ p. (p.0, (capped (t.1 * (s * above p.1)), capped (t.1 * (s * below p.1))))) (expansion (counts t.0))
    ∙ expanded (λ x. capped (t.1 * (s * below x))) (omega arith) (counts t.0) es (counts_low t.0 h)
    ∙ ap capped (ap (λ n. t.1 * n) (sym (below_scaled s (fallings (counts t.0) es))) ∙ sym (below_scaled t.1 (pos s *ℤ fallings (counts t.0) es)))

abbrev IsLowTerm : Term → Type 0
IsLowTerm t = degrees t.0 ≤ 4

all_up : (es : List ℕ) (ts : List Term) → All IsLowTerm ts → at up es (flat_map parts_of ts) ≡ total (λ t. capped (above (brings es t))) ts
all_up es ts low =
    total_parts (λ p. cond (bytes_eq es p.0) (up p.1) 0) parts_of ts
    ∙ total_same (λ t. at up es (parts_of t)) (λ t. capped (above (brings es t))) ts (λ t m. parts_up es t (All-contains IsLowTerm ts t low (among_contains t ts m)))

all_down : (es : List ℕ) (ts : List Term) → All IsLowTerm ts → at down es (flat_map parts_of ts) ≡ total (λ t. capped (below (brings es t))) ts
all_down es ts low =
    total_parts (λ p. cond (bytes_eq es p.0) (down p.1) 0) parts_of ts
    ∙ total_same (λ t. at down es (parts_of t)) (λ t. capped (below (brings es t))) ts (λ t m. parts_down es t (All-contains IsLowTerm ts t low (among_contains t ts m)))

-- in any order
moved : {X : Type 0} (f : X → ℕ) (xs ys : List X) → IsPermutation xs ys → total f ys ≡ total f xs
moved f xs ys same = is_sum_by (total f) f refl (λ _ _. refl) ys ∙ sum_by-IsPermutation f xs ys same ∙ sym (is_sum_by (total f) f refl (λ _ _. refl) xs)

-- The number at exponents by its two totals

pub halves : (x : ℤ) → x ≡ pos (above x) -ℤ pos (below x)
halves (pos n) = omega (arith, ints)
halves (negsuc n) = omega (arith, ints)

pub power_halves : (es : List ℕ) (ts : List Term) → power_at es ts ≡ pos (positive es ts) -ℤ pos (negative es ts)
power_halves es [] = refl
power_halves es (t ∷ ts) = let one = halves (brings es t) in let more = power_halves es ts in omega (arith, ints, one, more)

-- Sorted parts

abbrev pub part_order : Part → Part → Ordering
part_order p q = ordering_then (exponent_order p.0 q.0) (ordering_then (nat_cmp p.1.0 q.1.0) (nat_cmp p.1.1 q.1.1))

abbrev NotAfter : List ℕ → List ℕ → Type 0
NotAfter k j = is_gt (exponent_order k j) ≡ false

not_after : (p q : Part) → is_lt (part_order q p) ≡ false → NotAfter p.0 q.0
not_after p q h = ap is_gt (exponents_total.antisymm p.0 q.0) ∙ by (exponent_order q.0 p.0) (ordering_then (nat_cmp q.1.0 p.1.0) (nat_cmp q.1.1 p.1.1)) h
  where
    by : (o r : Ordering) → is_lt (ordering_then o r) ≡ false → is_gt (ordering_reverse o) ≡ false
    by Less r g = g
    by Equal r g = refl
    by Greater r g = refl

-- neighbours are in order, and so all are
pub sorted_rises : (ps : List Part) → IsSorted part_order ps → Rises ps
sorted_rises [] h = tt
sorted_rises (p ∷ []) h = (tt, tt)
sorted_rises (p ∷ q ∷ ps) h =
    let more = sorted_rises (q ∷ ps) (λ k d low high. ap (λ n. is_lt (part_order (slice_index_or (p ∷ q ∷ ps) n d) (slice_index_or (q ∷ ps) k d))) (behind k) ∙ h (suc k) d (omega arith) (omega (arith, high))) in
    let next = not_after p q (h 0 p (omega arith) (omega arith)) in
    ((next, spread q.0 ps next more.0), more)
  where
    behind : (k : ℕ) → suc (k + 1) ≡ suc k + 1
    behind k = omega arith

    spread : (j : List ℕ) (xs : List Part) → NotAfter p.0 j → UpTo j xs → UpTo p.0 xs
    spread j [] e g = tt
    spread j (x ∷ xs) e g = (upto exponents_total p.0 j x.0 e g.0, spread j xs e g.1)

-- a part is no more than the sum at its exponents
counted : (side : ℕ × ℕ → ℕ) (x : Part) (gs : List Part) → Among x gs → side x.1 ≤ at side x.0 gs
counted side x [] n = absurd n
counted side x (y ∷ gs) n = ⊎_elim
    (λ e. let one : cond (bytes_eq x.0 y.0) (side y.1) 0 ≡ side x.1 = ap (λ (q : Part). cond (bytes_eq x.0 q.0) (side q.1) 0) e ∙ ap (λ b. cond b (side x.1) 0) ((bytes_eq-Decides x.0 x.0).1 refl) in omega (arith, one))
    (λ k. let more = counted side x gs k in omega (arith, more)) n

large : (gs : List Part) → HasLarge gs → (g : Part) × (Among g gs × ((2 ^ 127 ≤ g.1.0) ⊎ (2 ^ 127 < g.1.1)))
large [] h = absurd h
large (g ∷ gs) h = ⊎_elim
    (λ u. (g, (inl refl, inl u)))
    (λ r. ⊎_elim (λ d. (g, (inl refl, inr d))) (λ m. let found = large gs m in (found.0, (inr found.1.0, found.1.1))) r) h

-- The outcome

module _ (den : ℕ) (ts : List Term) (ps : List Part) (low : All IsLowTerm ts) (same : IsPermutation (flat_map parts_of ts) ps) (rises : Rises ps) where
  abbrev sums : List Part
  sums = joined (0, 0) ps

  ups : (es : List ℕ) → at up es sums ≡ capped (positive es ts)
  ups es =
      joined_sums up up_is es ps rises
      ∙ ap capped (moved (λ p. cond (bytes_eq es p.0) (up p.1) 0) (flat_map parts_of ts) ps same ∙ all_up es ts low)
      ∙ capped_total (λ t. above (brings es t)) ts

  downs : (es : List ℕ) → at down es sums ≡ capped (negative es ts)
  downs es =
      joined_sums down down_is es ps rises
      ∙ ap capped (moved (λ p. cond (bytes_eq es p.0) (down p.1) 0) (flat_map parts_of ts) ps same ∙ all_down es ts low)
      ∙ capped_total (λ t. below (brings es t)) ts

  climbs : Climbs sums
  climbs = joined_climb (0, 0) ps rises

  small_up : AreSmall sums → (es : List ℕ) → positive es ts ≤ 2 ^ 127 - 1
  small_up h es =
      let most = at_most_one up (2 ^ 127 - 1) es sums climbs (each_up sums h) in
      let e = ups es in
      omega (arith, most, e)
    where
      each_up : (gs : List Part) → AreSmall gs → All (λ g. up g.1 ≤ 2 ^ 127 - 1) gs
      each_up [] a = All-nil (λ g. up g.1 ≤ 2 ^ 127 - 1)
      each_up (g ∷ gs) a = All-cons (λ g. up g.1 ≤ 2 ^ 127 - 1) g gs (omega (arith, a.0)) (each_up gs a.2)

  small_down : AreSmall sums → (es : List ℕ) → negative es ts ≤ 2 ^ 127
  small_down h es =
      let most = at_most_one down (2 ^ 127) es sums climbs (each_down sums h) in
      let e = downs es in
      omega (arith, most, e)
    where
      each_down : (gs : List Part) → AreSmall gs → All (λ g. down g.1 ≤ 2 ^ 127) gs
      each_down [] a = All-nil (λ g. down g.1 ≤ 2 ^ 127)
      each_down (g ∷ gs) a = All-cons (λ g. down g.1 ≤ 2 ^ 127) g gs a.1 (each_down gs a.2)

  pub made : AreSmall sums → ArePowers ts (numbers sums)
  made h = record {
    nonzero = numbers_nonzero sums;
    ascends = numbers_ascend sums climbs;
    each = λ es. numbers_at es sums climbs ∙ differences es ∙ sym (power_halves es ts);
  }
    where
      differences : (es : List ℕ) → pos (at up es sums) -ℤ pos (at down es sums) ≡ pos (positive es ts) -ℤ pos (negative es ts)
      differences es =
          let u = ups es in let d = downs es in let a = small_up h es in let b = small_down h es in
          omega (arith, ints, u, d, a, b)

  pub fits : AreSmall sums → 24 * den < 2 ^ 127 → Fits den ts
  fits h l = record { scaled = l; positive = λ es. let a = small_up h es in omega (arith, a); negative = small_down h }

  leaves_at : (g : Part) → Among g sums → (2 ^ 127 ≤ g.1.0) ⊎ (2 ^ 127 < g.1.1) → Leaves den ts
  leaves_at g m h = ⊎_elim
      (λ l. by_positive g.0 (let a = counted up g sums m in let e = ups g.0 in omega (arith, l, a, e)))
      (λ l. by_negative g.0 (let a = counted down g sums m in let e = downs g.0 in omega (arith, l, a, e))) h

  -- a sum that is too large leaves
  pub leaves : HasLarge sums → Leaves den ts
  leaves h = let found = large sums h in leaves_at found.0 found.1.0 found.1.1

-- the error of an answer
pub of_error : {X E : Type 0} (r : Result X E) (e f : E) → IsErrAnd r (λ x. x ≡ e) → r ≡ Err f → e ≡ f
of_error (Ok u) e f h g = absurd (cc)
of_error (Err x) e f h g = sym h ∙ (let p : x ≡ f = cc in p)

-- what an answer says twice
pub twice_ok : {X E : Type 0} (r : Result X E) (P Q : X → Type 0) (S : Type 0) → IfOk r P → OnOk r S → ((x : X) → P x → S → Q x) → IfOk r Q
twice_ok (Ok x) P Q S p s f = f x p s
twice_ok (Err e) P Q S p s f = tt

pub fits_or_leaves : FitsOrLeaves
fits_or_leaves den ts f (by_den h) = let fits = f.scaled in omega (arith, h, fits)
fits_or_leaves den ts f (by_positive es h) = let fits = f.positive es in omega (arith, h, fits)
fits_or_leaves den ts f (by_negative es h) = let fits = f.negative es in omega (arith, h, fits)
