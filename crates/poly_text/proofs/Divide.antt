-- The greatest common divisor by remainders.
use Rattle.std.proofs.Common.{◌≡◌, ℕ, zero, suc, ◌%◌, ◌<◌, ◌/◌, ◌++◌, codes, decimal, ap, ◌∙◌, sym, [], Bool, true, false, cond, ◌==◌, refl, arith, mod-lt, append-nil}
use Rattle.std.specs.Int.{IsGcd}
use Rattle.std.proofs.lemmas.Bool.{eqb-true, eqb-false}
use Rattle.std.proofs.lemmas.Nat.Gcd.{IsGcd-from_zero, IsGcd-from_mod, same_from_IsGcd}
use Rattle.std.proofs.lemmas.Bool.{eq-eqb, ne_eqb}
use Rattle.poly_text.specs.Text.{coefficient_text}
use Rattle.poly_text.specs.Lowest.{euclid, divisor, DividesOut}

by_remainders : (s a b : ℕ) → b < s → IsGcd a b (euclid s a b)
by_remainders zero a b h = absurd (omega (arith, h))
by_remainders (suc s) a b h = at (b == 0) refl (λ n. by_remainders s b (a % b) (less n))
  where
    less : 0 < b → a % b < s
    less n = omega (arith, mod-lt a n, h)

    at : (t : Bool) → (b == 0) ≡ t → (0 < b → IsGcd b (a % b) (euclid s b (a % b))) → IsGcd a b (cond t a (euclid s b (a % b)))
    at true e more = IsGcd-from_zero a b (eqb-true b 0 e)
    at false e more = IsGcd-from_mod a b (euclid s b (a % b)) (more (let f = eqb-false b 0 e in omega (arith, f)))

pub divides_out : DividesOut
divides_out = record { greatest = λ a b. by_remainders (suc b) a b (omega arith) }

pub is_divisor : (a b g : ℕ) → IsGcd a b g → g ≡ divisor a b
is_divisor a b g h = same_from_IsGcd a b g (divisor a b) h (divides_out.greatest a b)

-- a whole coefficient, and one that is not

pub coefficient_whole : (n m g : ℕ) → IsGcd n m g → m / g ≡ 1 → coefficient_text n m ≡ decimal (n / g)
coefficient_whole n m g h e =
    let same = sym (is_divisor n m g h) in
    (λ i. decimal (n / same i) ++ cond (m / same i == 1) [] (codes "/" ++ decimal (m / same i)))
    ∙ ap (λ t. decimal (n / g) ++ cond t [] (codes "/" ++ decimal (m / g))) (eq-eqb (m / g) 1 e) ∙ append-nil (decimal (n / g))

pub coefficient_parts : (n m g : ℕ) → IsGcd n m g → (m / g ≡ 1 → ⊥) → coefficient_text n m ≡ decimal (n / g) ++ (codes "/" ++ decimal (m / g))
coefficient_parts n m g h e =
    let same = sym (is_divisor n m g h) in
    (λ i. decimal (n / same i) ++ cond (m / same i == 1) [] (codes "/" ++ decimal (m / same i)))
    ∙ ap (λ t. decimal (n / g) ++ cond t [] (codes "/" ++ decimal (m / g))) (ne_eqb (m / g) 1 e)
