-- Numbers that are changed in their places, one by one.
use Rattle.std.proofs.Common.{◌≡◌, ◌≢◌, refl, sym, subst, ◌∙◌, ℕ, suc, ◌+◌, ◌*◌, ◌<◌, ◌≤◌, ◌^◌, inl, inr, ℤ, pos, ◌*ℤ◌, ◌-ℤ◌, FitsSigned, to_z, of_z, unsigned_abs, arith, List, [], ◌∷◌, length, get_or, set, drop, true, false, ◌==◌}
use Rattle.std.proofs.lemmas.Int.{ints, unsigned_abs-mul, fits_signed_from_abs, to_z-of_z}
use Rattle.std.proofs.lemmas.Bool.Decides.{nat_tests}
use Rattle.std.proofs.lemmas.List.{get_or-set_same, get_or-set_other, get_or_past, length-set, drop_more}
use Rattle.std.specs.Int.{w64}
use Rattle.simplex_rows.specs.ShortRows.{Wholes, whole_at, AscendsFrom, WholesEndBefore}
use Rattle.simplex_rows.specs.Placed.{placed, ProductsFit, DifferencesFit, AreMultiplied, AreLessened}
use Rattle.simplex_rows.proofs.Wholes.{none_before, same_or_not, before_or_from}

-- R is between the numbers before and after at the first k places, and the others are as before
pub record Changing (R : ℤ → ℤ → Type 0) (k : ℕ) (old now : List ℤ) : Type 0 where
  pub count : length now ≡ length old
  pub done : (c : ℕ) → c < k → R (placed old c) (placed now c)
  pub left : (c : ℕ) → k ≤ c → placed now c ≡ placed old c

pub changing_none : (R : ℤ → ℤ → Type 0) (old : List ℤ) → Changing R 0 old old
changing_none R old = record { count = refl; done = λ c l. absurd (omega arith); left = λ c l. refl }

module _ (R : ℤ → ℤ → Type 0) (k : ℕ) (old now : List ℤ) (changing : Changing R k old now) where
  pub change_next : (n : ℤ) → k < length now → R (placed old k) n → Changing R (k + 1) old (set now k n)
  change_next n inside r = record {
    count = length-set now k n ∙ changing.count;
    done = λ c l. elim (same_or_not c k) [
      | inl same ↦ subst (λ (j : ℕ). R (placed old j) (placed (set now k n) j)) (sym same) (subst (R (placed old k)) (sym (get_or-set_same now k n (pos 0) inside)) r)
      | inr other ↦ subst (R (placed old c)) (sym (get_or-set_other now k c n (pos 0) other)) (changing.done c (omega arith))
    ];
    left = λ c l. get_or-set_other now k c n (pos 0) (λ e. omega arith) ∙ changing.left c (omega arith);
  }

  pub all_changed : length now ≤ k → R (pos 0) (pos 0) → (c : ℕ) → R (placed old c) (placed now c)
  all_changed h z c = elim (before_or_from c k) [
    | inl l ↦ changing.done c l
    | inr g ↦
        let o : placed old c ≡ pos 0 = get_or_past old c (pos 0) (let m = changing.count in omega arith) in
        let n : placed now c ≡ pos 0 = get_or_past now c (pos 0) (omega arith) in
        rw (o, n) z
  ]

pub product_fits_64 : (p x : ℤ) → unsigned_abs p * unsigned_abs x < 2 ^ 63 → FitsSigned w64 (p *ℤ x)
product_fits_64 p x h = fits_signed_from_abs w64 (p *ℤ x) (rw (unsigned_abs-mul p x) (omega arith))

difference_below : (x y : ℤ) (n : ℕ) → unsigned_abs x + unsigned_abs y < n → unsigned_abs (x -ℤ y) < n
difference_below x y n h = grind (arith, ints)

pub difference_fits_64 : (x q y : ℤ) → unsigned_abs x + unsigned_abs q * unsigned_abs y < 2 ^ 63 → FitsSigned w64 (x -ℤ q *ℤ y)
difference_fits_64 x q y h = fits_signed_from_abs w64 (x -ℤ q *ℤ y) (difference_below x (q *ℤ y) (2 ^ 63) (rw (unsigned_abs-mul q y) h))

-- the lead up to the rest, times q, is taken from the numbers
pub record Lessening (q : ℤ) (rest lead : Wholes) (old now : List ℤ) : Type 0 where
  pub count : length now ≡ length old
  pub from : ℕ
  pub ascends : AscendsFrom from rest
  pub ends : WholesEndBefore (length old) rest
  pub each : (c : ℕ) → placed now c -ℤ q *ℤ whole_at c rest ≡ placed old c -ℤ q *ℤ whole_at c lead
  pub left : (c : ℕ) → from ≤ c → placed now c ≡ placed old c
  pub behind : (c : ℕ) → from ≤ c → whole_at c rest ≡ whole_at c lead

pub lessening_none : (q : ℤ) (lead : Wholes) (old : List ℤ) → AscendsFrom 0 lead → WholesEndBefore (length old) lead → Lessening q lead lead old old
lessening_none q lead old a e = record { count = refl; from = 0; ascends = a; ends = e; each = λ c. refl; left = λ c l. refl; behind = λ c l. refl }

taken_here : (x y : ℤ) → (x -ℤ y) -ℤ pos 0 ≡ x -ℤ y
taken_here x y = omega (arith, ints)

less_none : (x q : ℤ) → x -ℤ q *ℤ pos 0 ≡ x
less_none x q = omega (arith, ints)

module _ (q : ℤ) (k : ℕ) (n : ℤ) (rest lead : Wholes) (old now : List ℤ) (lessening : Lessening q ((k, n) ∷ rest) lead old now) where
  pub low_place : k < length now
  low_place = let e = lessening.ends.0 in let c = lessening.count in omega arith

  head : whole_at k ((k, n) ∷ rest) ≡ n
  head = let t : (k == k) ≡ true = grind (arith, nat_tests) in rw t refl

  behind_head : (c : ℕ) → c ≢ k → whole_at c ((k, n) ∷ rest) ≡ whole_at c rest
  behind_head c h = let t : (k == c) ≡ false = grind (arith, nat_tests) in rw t refl

  pub fits_here : DifferencesFit q lead old → unsigned_abs (placed now k) + unsigned_abs q * unsigned_abs n < 2 ^ 63
  fits_here fit =
      let l = lessening.ascends.0 in
      let e : whole_at k lead ≡ n = sym (lessening.behind k l) ∙ head in
      let f = fit.each k in
      rw (lessening.left k l, ← e) f

  pub lessens_next : Lessening q rest lead old (set now k (placed now k -ℤ q *ℤ n))
  lessens_next = record {
    count = length-set now k (placed now k -ℤ q *ℤ n) ∙ lessening.count;
    from = suc k;
    ascends = lessening.ascends.2;
    ends = lessening.ends.1;
    each = λ c. elim (same_or_not c k) [
      | inl same ↦ subst (λ (j : ℕ). placed (set now k (placed now k -ℤ q *ℤ n)) j -ℤ q *ℤ whole_at j rest ≡ placed old j -ℤ q *ℤ whole_at j lead) (sym same) (
          let e = lessening.each k in
          rw (get_or-set_same now k (placed now k -ℤ q *ℤ n) (pos 0) low_place, none_before (suc k) k rest lessening.ascends.2 (omega arith), less_none (placed now k -ℤ q *ℤ n) q) (rw head at e))
      | inr other ↦ rw (get_or-set_other now k c (placed now k -ℤ q *ℤ n) (pos 0) other) (let e = lessening.each c in rw (behind_head c other) at e)
    ];
    left = λ c l. get_or-set_other now k c (placed now k -ℤ q *ℤ n) (pos 0) (λ e. omega arith) ∙ lessening.left c (let m = lessening.ascends.0 in omega arith);
    behind = λ c l. sym (behind_head c (λ e. omega arith)) ∙ lessening.behind c (let m = lessening.ascends.0 in omega arith);
  }

pub all_lessened : (q : ℤ) (rest lead : Wholes) (old now : List ℤ) → rest ≡ [] → Lessening q rest lead old now → AreLessened q lead old now
all_lessened q rest lead old now e lessening = record { count = lessening.count; each = λ c. sym (less_none (placed now c) q) ∙ subst (λ (r : Wholes). placed now c -ℤ q *ℤ whole_at c r ≡ placed old c -ℤ q *ℤ whole_at c lead) e (lessening.each c) }

-- the steps, as the code computes them
pub multiplied_next : (p : ℤ) (k : ℕ) (old now : List ℤ) → FitsSigned w64 p → FitsSigned w64 (placed now k) → ProductsFit p old → k < length now → Changing (λ x y. y ≡ to_z w64 (of_z w64 p) *ℤ x) k old now
    → Changing (λ x y. y ≡ to_z w64 (of_z w64 p) *ℤ x) (k + 1) old (set now k (to_z w64 (of_z w64 (to_z w64 (of_z w64 p) *ℤ to_z w64 (of_z w64 (placed now k))))))
multiplied_next p k old now f g fit inside changing =
    let same = changing.left k (let l : k ≤ k = omega arith in l) in
    let m : FitsSigned w64 (p *ℤ placed now k) = product_fits_64 p (placed now k) (rw same (fit.each k)) in
    rw (to_z-of_z w64 _ f, to_z-of_z w64 _ g, to_z-of_z w64 _ m) (change_next (λ x y. y ≡ p *ℤ x) k old now (subst (λ z. Changing (λ x y. y ≡ z *ℤ x) k old now) (to_z-of_z w64 p f) changing) (p *ℤ placed now k) inside (rw same refl))

-- an entry of the lead that comes
module _ (q : ℤ) (i : ℕ) (lead : Wholes) (old now : List ℤ) (f : FitsSigned w64 q) (inside : i < length lead) (l : Lessening (to_z w64 (of_z w64 q)) (drop i lead) lead old now) where
  abbrev entry : ℕ × ℤ
  entry = get_or lead i (0, pos 0)

  coming : Lessening q (entry ∷ drop (i + 1) lead) lead old now
  coming = subst (λ z. Lessening z (entry ∷ drop (i + 1) lead) lead old now) (to_z-of_z w64 q f) (subst (λ (es : Wholes). Lessening (to_z w64 (of_z w64 q)) es lead old now) (drop_more lead i (0, pos 0) inside) l)

  module _ (fit : DifferencesFit q lead old) (g : FitsSigned w64 (placed now entry.0)) (h : FitsSigned w64 entry.1) where
    product : FitsSigned w64 (q *ℤ entry.1)
    product = product_fits_64 q entry.1 (let s = fits_here q entry.0 entry.1 _ lead old now coming fit in omega arith)

    difference : FitsSigned w64 (placed now entry.0 -ℤ q *ℤ entry.1)
    difference = difference_fits_64 (placed now entry.0) q entry.1 (fits_here q entry.0 entry.1 _ lead old now coming fit)

    pub difference_read : FitsSigned w64 (to_z w64 (of_z w64 (placed now entry.0)) -ℤ to_z w64 (of_z w64 (to_z w64 (of_z w64 q) *ℤ to_z w64 (of_z w64 entry.1))))
    difference_read = rw (to_z-of_z w64 _ f, to_z-of_z w64 _ g, to_z-of_z w64 _ h, to_z-of_z w64 _ product) difference

    pub lessened_next : Lessening (to_z w64 (of_z w64 q)) (drop (i + 1) lead) lead old (set now entry.0 (to_z w64 (of_z w64 (to_z w64 (of_z w64 (placed now entry.0)) -ℤ to_z w64 (of_z w64 (to_z w64 (of_z w64 q) *ℤ to_z w64 (of_z w64 entry.1)))))))
    lessened_next = rw (to_z-of_z w64 _ f, to_z-of_z w64 _ g, to_z-of_z w64 _ h, to_z-of_z w64 _ product, to_z-of_z w64 _ difference) (lessens_next q entry.0 entry.1 (drop (i + 1) lead) lead old now coming)

one_times : (x : ℤ) → x ≡ pos 1 *ℤ x
one_times x = omega (arith, ints)

-- numbers times 1
pub once : (p : ℤ) (ns : List ℤ) → p ≡ pos 1 → AreMultiplied p ns ns
once p ns e = rw e (record { count = refl; each = λ c. one_times (placed ns c) })
