-- Sets of functions by their words of bits.
use Rattle.std.proofs.Common.{◌≡◌, ◌<◌, ◌≤◌, ◌+◌, ◌-◌, ◌*◌, ◌/◌, ◌%◌, ◌^◌, ℕ, zero, suc, min, max, Bool, true, false, cond, not, ◌||◌, ◌&&◌, nat_eq, nat_lt, bit_and, bit_or, refl, sym, ap, ◌∙◌, arith}
use Rattle.std.proofs.lemmas.Bool.{eqb-true, eqb-false, ltb-true, ltb-false, lt-ltb, le-ltb, and_from, not_from_false}
use Rattle.std.proofs.lemmas.Nat.Bits.{bit_at_or, bit_at_and, bit_at_not, bit_at-lt, bit_at-zero, bit_at_set_same, bit_at_set_other, shr_and_one, same_from_bits_below}
use Rattle.std.specs.Int.{bit_at, bit_not, w128}
use Rattle.call_groups.specs.declared.function_set.FunctionSet.{FunctionSet}
use Rattle.call_groups.specs.Sets.{Members, has_bit, has, none, with_one, joined, shared, without, IsSubset}
use Rattle.call_groups.proofs.Truths.{same, clash, or_none}

-- One word

is_max : (x y : ℕ) → x < 2 → y < 2 → nat_eq (max x y) 1 ≡ (nat_eq x 1 || nat_eq y 1)
is_max zero zero p q = refl
is_max zero (suc zero) p q = refl
is_max (suc zero) zero p q = refl
is_max (suc zero) (suc zero) p q = refl
is_max (suc (suc x)) y p q = absurd (omega arith)
is_max x (suc (suc y)) p q = absurd (omega arith)

is_min : (x y : ℕ) → x < 2 → y < 2 → nat_eq (min x y) 1 ≡ (nat_eq x 1 && nat_eq y 1)
is_min zero zero p q = refl
is_min zero (suc zero) p q = refl
is_min (suc zero) zero p q = refl
is_min (suc zero) (suc zero) p q = refl
is_min (suc (suc x)) y p q = absurd (omega arith)
is_min x (suc (suc y)) p q = absurd (omega arith)

is_rest : (x y : ℕ) → x < 2 → y < 2 → nat_eq (min x (1 - y)) 1 ≡ (nat_eq x 1 && not (nat_eq y 1))
is_rest zero zero p q = refl
is_rest zero (suc zero) p q = refl
is_rest (suc zero) zero p q = refl
is_rest (suc zero) (suc zero) p q = refl
is_rest (suc (suc x)) y p q = absurd (omega arith)
is_rest x (suc (suc y)) p q = absurd (omega arith)

bit_joined : (a b i : ℕ) → has_bit (bit_or a b) i ≡ (has_bit a i || has_bit b i)
bit_joined a b i = ap (λ x. nat_eq x 1) (bit_at_or a b i) ∙ is_max (bit_at a i) (bit_at b i) (bit_at-lt a i) (bit_at-lt b i)

bit_shared : (a b i : ℕ) → has_bit (bit_and a b) i ≡ (has_bit a i && has_bit b i)
bit_shared a b i = ap (λ x. nat_eq x 1) (bit_at_and a b i) ∙ is_min (bit_at a i) (bit_at b i) (bit_at-lt a i) (bit_at-lt b i)

bit_without : (a b i : ℕ) → b < 2 ^ 128 → i < 128 → has_bit (bit_and a (bit_not w128 b)) i ≡ (has_bit a i && not (has_bit b i))
bit_without a b i within low =
    ap (λ x. nat_eq x 1) (bit_at_and a (bit_not w128 b) i ∙ ap (min (bit_at a i)) (bit_at_not w128 b i within low))
    ∙ is_rest (bit_at a i) (bit_at b i) (bit_at-lt a i) (bit_at-lt b i)

bit_with : (n k i : ℕ) → k < 128 → has_bit (bit_or n (1 * 2 ^ k % 2 ^ 128)) i ≡ (has_bit n i || nat_eq i k)
bit_with n k i low = by (nat_eq i k) refl
  where
    or_true : (b : Bool) → true ≡ (b || true)
    or_true true = refl
    or_true false = refl

    by : (b : Bool) → nat_eq i k ≡ b → has_bit (bit_or n (1 * 2 ^ k % 2 ^ 128)) i ≡ (has_bit n i || b)
    by true q =
        let at : has_bit (bit_or n (1 * 2 ^ k % 2 ^ 128)) k ≡ true = ap (λ x. nat_eq x 1) (bit_at_set_same w128 n k low) in
        ap (has_bit (bit_or n (1 * 2 ^ k % 2 ^ 128))) (eqb-true i k q) ∙ at ∙ or_true (has_bit n i)
    by false q = ap (λ x. nat_eq x 1) (bit_at_set_other w128 n k low i (eqb-false i k q)) ∙ or_none (has_bit n i)

bit_read : (n i : ℕ) → nat_eq (bit_and (n / 2 ^ i) 1) 1 ≡ has_bit n i
bit_read n i = ap (λ x. nat_eq x 1) (shr_and_one n i)

-- Two words

pub has_low : (s : FunctionSet) (f : ℕ) → f < 128 → has s f ≡ has_bit s.low f
unfolding has
has_low s f low = ap (λ b. cond b (has_bit s.low f) (nat_lt f 256 && has_bit s.high (f - 128))) (lt-ltb f 128 low)

pub has_high : (s : FunctionSet) (f : ℕ) → 128 ≤ f → has s f ≡ (nat_lt f 256 && has_bit s.high (f - 128))
unfolding has
has_high s f high = ap (λ b. cond b (has_bit s.low f) (nat_lt f 256 && has_bit s.high (f - 128))) (le-ltb f 128 high)

-- the tests of the code
pub reads_low : (s : FunctionSet) (f : ℕ) → f < 128 → nat_eq (bit_and (s.low / 2 ^ f) 1) 1 ≡ has s f
reads_low s f low = bit_read s.low f ∙ sym (has_low s f low)

pub reads_high : (s : FunctionSet) (f : ℕ) → 128 ≤ f → f < 256 → nat_eq (bit_and (s.high / 2 ^ (f - 128)) 1) 1 ≡ has s f
reads_high s f high lt = bit_read s.high (f - 128) ∙ ap (λ b. b && has_bit s.high (f - 128)) (sym (lt-ltb f 256 lt)) ∙ sym (has_high s f high)

pub reads_past : (s : FunctionSet) (f : ℕ) → 256 ≤ f → nat_lt f 256 ≡ has s f
reads_past s f past = le-ltb f 256 past ∙ ap (λ b. b && has_bit s.high (f - 128)) (sym (le-ltb f 256 past)) ∙ sym (has_high s f (omega arith))

-- what a set has, by halves
from_halves : (s : FunctionSet) (r : Members) → ((f : ℕ) → f < 128 → has_bit s.low f ≡ r f) → ((f : ℕ) → 128 ≤ f → (nat_lt f 256 && has_bit s.high (f - 128)) ≡ r f) → has s ≡ r
from_halves s r low high = λ i f. at f i
  where
    at : (f : ℕ) → has s f ≡ r f
    at f = by (nat_lt f 128) refl
      where
        by : (b : Bool) → nat_lt f 128 ≡ b → has s f ≡ r f
        by true q = has_low s f (ltb-true f 128 q) ∙ low f (ltb-true f 128 q)
        by false q = has_high s f (ltb-false f 128 q) ∙ high f (ltb-false f 128 q)

pub has_none : (s : FunctionSet) → s.low ≡ 0 → s.high ≡ 0 → has s ≡ none
has_none s p q =
    from_halves s none (λ f h. ap (λ w. has_bit w f) p ∙ zero_bit f)
    (λ f h. ap (λ b. nat_lt f 256 && b) (ap (λ w. has_bit w (f - 128)) q ∙ zero_bit (f - 128)) ∙ and_none (nat_lt f 256))
  where
    zero_bit : (f : ℕ) → has_bit 0 f ≡ false
    zero_bit f = ap (λ x. nat_eq x 1) (bit_at-zero f)

    and_none : (b : Bool) → (b && false) ≡ false
    and_none true = refl
    and_none false = refl

pub has_joined : (a b c : FunctionSet) → c.low ≡ bit_or a.low b.low → c.high ≡ bit_or a.high b.high → has c ≡ joined (has a) (has b)
has_joined a b c p q =
    from_halves c (joined (has a) (has b))
    (λ f h. ap (λ w. has_bit w f) p ∙ bit_joined a.low b.low f ∙ (λ i. sym (has_low a f h) i || sym (has_low b f h) i))
    (λ f h. ap (λ w. nat_lt f 256 && has_bit w (f - 128)) q ∙ ap (λ x. nat_lt f 256 && x) (bit_joined a.high b.high (f - 128))
    ∙ spread (nat_lt f 256) (has_bit a.high (f - 128)) (has_bit b.high (f - 128)) ∙ (λ i. sym (has_high a f h) i || sym (has_high b f h) i))
  where
    spread : (t x y : Bool) → (t && (x || y)) ≡ ((t && x) || (t && y))
    spread true x y = refl
    spread false x y = refl

pub has_shared : (a b c : FunctionSet) → c.low ≡ bit_and a.low b.low → c.high ≡ bit_and a.high b.high → has c ≡ shared (has a) (has b)
has_shared a b c p q =
    from_halves c (shared (has a) (has b))
    (λ f h. ap (λ w. has_bit w f) p ∙ bit_shared a.low b.low f ∙ (λ i. sym (has_low a f h) i && sym (has_low b f h) i))
    (λ f h. ap (λ w. nat_lt f 256 && has_bit w (f - 128)) q ∙ ap (λ x. nat_lt f 256 && x) (bit_shared a.high b.high (f - 128))
    ∙ spread (nat_lt f 256) (has_bit a.high (f - 128)) (has_bit b.high (f - 128)) ∙ (λ i. sym (has_high a f h) i && sym (has_high b f h) i))
  where
    spread : (t x y : Bool) → (t && (x && y)) ≡ ((t && x) && (t && y))
    spread true x y = refl
    spread false x y = refl

pub has_without : (a b c : FunctionSet) → b.low < 2 ^ 128 → b.high < 2 ^ 128 → c.low ≡ bit_and a.low (bit_not w128 b.low) → c.high ≡ bit_and a.high (bit_not w128 b.high) → has c ≡ without (has a) (has b)
has_without a b c m n p q =
    from_halves c (without (has a) (has b))
    (λ f h. ap (λ w. has_bit w f) p ∙ bit_without a.low b.low f m h ∙ (λ i. sym (has_low a f h) i && not (sym (has_low b f h) i)))
    (λ f h. ap (λ w. nat_lt f 256 && has_bit w (f - 128)) q ∙ above f h (nat_lt f 256) refl
    ∙ spread (nat_lt f 256) (has_bit a.high (f - 128)) (has_bit b.high (f - 128)) ∙ (λ i. sym (has_high a f h) i && not (sym (has_high b f h) i)))
  where
    spread : (t x y : Bool) → (t && (x && not y)) ≡ ((t && x) && not (t && y))
    spread true x y = refl
    spread false x y = refl

    above : (f : ℕ) → 128 ≤ f → (t : Bool) → nat_lt f 256 ≡ t → (t && has_bit (bit_and a.high (bit_not w128 b.high)) (f - 128)) ≡ (t && (has_bit a.high (f - 128) && not (has_bit b.high (f - 128))))
    above f h true e = bit_without a.high b.high (f - 128) n (let l = ltb-true f 256 e in omega arith)
    above f h false e = refl

-- one more function, in either word
pub has_with_low : (a c : FunctionSet) (g : ℕ) → g < 128 → c.low ≡ bit_or a.low (1 * 2 ^ g % 2 ^ 128) → c.high ≡ a.high → has c ≡ with_one g (has a)
has_with_low a c g lt p q =
    from_halves c (with_one g (has a))
    (λ f h. ap (λ w. has_bit w f) p ∙ bit_with a.low g f lt ∙ ap (λ b. b || nat_eq f g) (sym (has_low a f h)))
    (λ f h. ap (λ w. nat_lt f 256 && has_bit w (f - 128)) q ∙ sym (has_high a f h) ∙ or_none (has a f) ∙ ap (λ b. has a f || b) (sym (apart f g (omega arith))))
  where
    apart : (x y : ℕ) → y < x → nat_eq x y ≡ false
    apart x y l = by (nat_eq x y) refl
      where
        by : (b : Bool) → nat_eq x y ≡ b → b ≡ false
        by true e = let i = eqb-true x y e in absurd (omega arith)
        by false e = refl

pub has_with_high : (a c : FunctionSet) (g : ℕ) → 128 ≤ g → g < 256 → c.low ≡ a.low → c.high ≡ bit_or a.high (1 * 2 ^ (g - 128) % 2 ^ 128) → has c ≡ with_one g (has a)
has_with_high a c g ge lt p q =
    from_halves c (with_one g (has a))
    (λ f h. ap (λ w. has_bit w f) p ∙ sym (has_low a f h) ∙ or_none (has a f) ∙ ap (λ b. has a f || b) (sym (apart f (omega arith))))
    (λ f h. ap (λ w. nat_lt f 256 && has_bit w (f - 128)) q ∙ ap (λ x. nat_lt f 256 && x) (bit_with a.high (g - 128) (f - 128) (omega arith))
    ∙ above f h (nat_lt f 256) refl ∙ ap (λ b. b || nat_eq f g) (sym (has_high a f h)))
  where
    apart : (f : ℕ) → f < g → nat_eq f g ≡ false
    apart f l = by (nat_eq f g) refl
      where
        by : (b : Bool) → nat_eq f g ≡ b → b ≡ false
        by true e = let i = eqb-true f g e in absurd (omega arith)
        by false e = refl

    less : (f : ℕ) → 128 ≤ f → nat_eq (f - 128) (g - 128) ≡ nat_eq f g
    less f h = by (nat_eq f g) refl
      where
        by : (b : Bool) → nat_eq f g ≡ b → nat_eq (f - 128) (g - 128) ≡ b
        by true e = ap (λ z. nat_eq (z - 128) (g - 128)) (eqb-true f g e) ∙ same (g - 128)
        by false e = other (nat_eq (f - 128) (g - 128)) refl
          where
            other : (b : Bool) → nat_eq (f - 128) (g - 128) ≡ b → nat_eq (f - 128) (g - 128) ≡ false
            other true i = let w = eqb-true (f - 128) (g - 128) i in absurd (eqb-false f g e (omega arith))
            other false i = i

    above : (f : ℕ) → 128 ≤ f → (t : Bool) → nat_lt f 256 ≡ t → (t && (has_bit a.high (f - 128) || nat_eq (f - 128) (g - 128))) ≡ ((t && has_bit a.high (f - 128)) || nat_eq f g)
    above f h true e = ap (λ b. has_bit a.high (f - 128) || b) (less f h)
    above f h false e = let l = ltb-false f 256 e in sym (past f (omega arith))
      where
        past : (x : ℕ) → g < x → nat_eq x g ≡ false
        past x l = by (nat_eq x g) refl
          where
            by : (b : Bool) → nat_eq x g ≡ b → b ≡ false
            by true e = let i = eqb-true x g e in absurd (omega arith)
            by false e = refl

-- Nothing is left of a set

-- a word of no bits
no_bits : (n : ℕ) → n < 2 ^ 128 → ((i : ℕ) → i < 128 → has_bit n i ≡ false) → n ≡ 0
no_bits n within off = same_from_bits_below 128 n 0 within (omega arith) (λ i low. at i (bit_at n i) refl (bit_at-lt n i) (off i low) ∙ sym (bit_at-zero i))
  where
    at : (i x : ℕ) → bit_at n i ≡ x → x < 2 → nat_eq (bit_at n i) 1 ≡ false → bit_at n i ≡ 0
    at i zero e l o = e
    at i (suc zero) e l o = let w : nat_eq (bit_at n i) 1 ≡ true = ap (λ z. nat_eq z 1) e in absurd (cc)
    at i (suc (suc x)) e l o = absurd (omega arith)

-- the words are 0 exactly where the set has none
words_none : (s : FunctionSet) → s.low < 2 ^ 128 → s.high < 2 ^ 128 → has s ≡ none → (s.low ≡ 0) × (s.high ≡ 0)
words_none s m n h = (
  no_bits s.low m (λ i low. sym (has_low s i low) ∙ ap (λ r. r i) h),
  no_bits s.high n (λ i low. up i low),
)
  where
    up : (i : ℕ) → i < 128 → has_bit s.high i ≡ false
    up i low =
        let within : nat_lt (i + 128) 256 ≡ true = lt-ltb (i + 128) 256 (omega arith) in
        let back : i ≡ i + 128 - 128 = omega arith in
        ap (has_bit s.high) back ∙ ap (λ b. b && has_bit s.high (i + 128 - 128)) (sym within) ∙ sym (has_high s (i + 128) (omega arith)) ∙ ap (λ r. r (i + 128)) h

pub subset_from_words : (a b rest : FunctionSet) → has rest ≡ without (has a) (has b) → rest.low ≡ 0 → rest.high ≡ 0 → IsSubset (has a) (has b)
subset_from_words a b rest e p q f h = by (has b f) refl
  where
    by : (x : Bool) → has b f ≡ x → has b f ≡ true
    by true w = w
    by false w =
        let left : without (has a) (has b) f ≡ true = and_from (has a f) (not (has b f)) h (not_from_false (has b f) w) in
        let gone : without (has a) (has b) f ≡ false = sym (ap (λ z. z f) e) ∙ ap (λ z. z f) (has_none rest p q) in
        absurd (clash (without (has a) (has b) f) left gone)

pub words_from_subset : (a b rest : FunctionSet) → rest.low < 2 ^ 128 → rest.high < 2 ^ 128 → has rest ≡ without (has a) (has b) → IsSubset (has a) (has b) → (rest.low ≡ 0) × (rest.high ≡ 0)
words_from_subset a b rest m n e h = words_none rest m n (e ∙ (λ i f. at f i))
  where
    at : (f : ℕ) → without (has a) (has b) f ≡ false
    at f = by (has a f) (has b f) refl refl
      where
        by : (x y : Bool) → has a f ≡ x → has b f ≡ y → (x && not y) ≡ false
        by true true p q = refl
        by true false p q = absurd (clash (has b f) (h f p) q)
        by false y p q = refl
