-- Quotients in lowest terms.
use Rattle.std.specs.Prelude.{ℕ, zero, suc, ◌%◌, cond, ◌==◌}
use Rattle.std.specs.Int.{IsGcd}

-- the greatest common divisor of a and b, by so many remainders at most
abbrev pub euclid : ℕ → ℕ → ℕ → ℕ
euclid zero a b = a
euclid (suc s) a b = cond (b == 0) a (euclid s b (a % b))

abbrev pub divisor : ℕ → ℕ → ℕ
divisor a b = euclid (suc b) a b

-- the divisor is the greatest common one, so that no number but 1 divides both what is left of a and what is left of b
pub record DividesOut : Type 0 where
  pub greatest : (a b : ℕ) → IsGcd a b (divisor a b)
