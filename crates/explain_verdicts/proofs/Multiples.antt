-- Common multiples of denominators.
use Rattle.std.proofs.Common.{◌≡◌, ◌≤◌, ◌<◌, ◌+◌, ◌*◌, ◌/◌, ◌^◌, ℕ, zero, suc, List, [], ◌∷◌, length, drop, refl, sym, ap, ◌∙◌, subst, arith}
use Rattle.std.specs.Prelude.{slice_index_or, Option, Some, None, MatchOption}
use Rattle.std.proofs.lemmas.List.{drop_more}
use Rattle.std.proofs.lemmas.Nat.Gcd.{dvd_refl, dvd_trans}
use Rattle.std.proofs.Math.Nat.{one-dvd, eq-zero_of_zero-dvd, dvd-mul_left, dvd-mul_right}
use Prim.Native.Nat.{◌∣◌}
use Rattle.raml_num.specs.Divisors.{IsLcm, EachCommonMultipleLeaves}
use Rattle.explain_verdicts.specs.Fractions.{IsCommon}
use Rattle.explain_verdicts.specs.Over.{IsLeastCommon, NoCommon}
use Rattle.explain_verdicts.specs.declared.fraction.Fraction.{Fraction}

-- what stands from the i-th place on begins with the i-th element
pub from_place : {A : Type 0} (xs : List A) (i : ℕ) (x : A) → x ≡ slice_index_or xs i x → i < length xs → drop i xs ≡ x ∷ drop (i + 1) xs
from_place xs i x is below = drop_more xs i x below ∙ ap (λ first. first ∷ drop (i + 1) xs) (sym is)

pub common_at : (fs : List Fraction) (i : ℕ) (f : Fraction) (n : ℕ) → f ≡ slice_index_or fs i f → i < length fs → IsCommon fs n → f.denominator ∣ n
common_at [] i f n is below h = absurd (omega (arith, below))
common_at (g ∷ fs) zero f n is below h = subst (λ (g : Fraction). g.denominator ∣ n) (sym is) h.0
common_at (g ∷ fs) (suc i) f n is below h = common_at fs i f n is (omega (arith, below)) h.1

positive_lcm : (a n m : ℕ) → 0 < a → 0 < n → IsLcm a n m → 0 < m
positive_lcm a n (suc m) pa pn h = omega arith
positive_lcm (suc a) (suc n) zero pa pn h = absurd (let e = eq-zero_of_zero-dvd (h.2 (suc a * suc n) (dvd-mul_right (suc a) (suc n)) (dvd-mul_left (suc n) (suc a))) in omega (arith, e))
positive_lcm zero n zero pa pn h = absurd (omega (arith, pa))
positive_lcm (suc a) zero zero pa pn h = absurd (omega (arith, pn))

-- What holds in the loop.
pub record IsSoFar (fs left : List Fraction) (so_far : ℕ) : Type 0 where
  pub positive : 0 < so_far
  pub each : (n : ℕ) → so_far ∣ n → IsCommon left n → IsCommon fs n
  pub least : (n : ℕ) → IsCommon fs n → so_far ∣ n

pub none_yet : (fs : List Fraction) → IsSoFar fs fs 1
none_yet fs = record { positive = omega arith; each = λ n h k. k; least = λ n h. one-dvd n }

pub one_more : (fs left later : List Fraction) (so_far next : ℕ) (f : Fraction) → left ≡ f ∷ later → 0 < f.denominator → ((n : ℕ) → IsCommon fs n → f.denominator ∣ n) →
    IsSoFar fs left so_far → IsLcm so_far f.denominator next → IsSoFar fs later next
one_more fs left later so_far next f is positive divides h lcm = record {
  positive = positive_lcm so_far f.denominator next h.positive positive lcm;
  each = λ n d k. h.each n (dvd_trans so_far lcm.0 d) (subst (λ fs. IsCommon fs n) (sym is) (dvd_trans f.denominator lcm.1 d, k));
  least = λ n k. lcm.2 n (h.least n k) (divides n k);
}

pub no_more : (fs : List Fraction) (so_far : ℕ) (f : Fraction) → ((n : ℕ) → IsCommon fs n → f.denominator ∣ n) → ((n : ℕ) → IsCommon fs n → so_far ∣ n) → EachCommonMultipleLeaves so_far f.denominator → NoCommon fs
no_more fs so_far f divides least leaves n positive common = leaves n positive (least n common) (divides n common)

pub all_seen : (fs left : List Fraction) (so_far : ℕ) → left ≡ [] → IsSoFar fs left so_far → IsLeastCommon fs so_far
all_seen fs left so_far is h = record {
  positive = h.positive;
  common = h.each so_far (dvd_refl so_far) (subst (λ fs. IsCommon fs so_far) (sym is) tt);
  least = h.least;
}

-- what ends a function with None
pub none_from : {A : Type 0} (P : Type 0) (Q : A → Type 0) (r : Option A) → r ≡ None → P → MatchOption r P Q
none_from P Q None is p = p
none_from P Q (Some x) is p = absurd (cc is)
