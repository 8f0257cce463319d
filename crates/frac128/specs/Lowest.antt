-- Numerators and denominators.
use Rattle.std.specs.Prelude.{◌≡◌, ℕ, ◌*◌, ◌/◌, ◌<◌, ◌^◌, ℤ, pos, ◌*ℤ◌, ◌+ℤ◌, unsigned_abs, neg_ℤ, Bool, true, false, Option, Some, None}
use Rattle.raml_num.specs.Divisors.{IsCoprime}

-- n over d is in lowest terms, and both are below 2^127
pub record InLowestTerms (n d : ℕ) : Type 0 where
  pub small : n < 2 ^ 127
  pub positive : 0 < d
  pub fits : d < 2 ^ 127
  pub coprime : IsCoprime n d

-- the lowest terms of n over d, or none where they are not below 2^127
abbrev pub TellsLowest : ℕ → ℕ → Option (ℕ × ℕ) → Type 0
TellsLowest n d None = (p q : ℕ) → InLowestTerms p q → p * d ≡ n * q → ⊥
TellsLowest n d (Some r) = InLowestTerms r.0 r.1 × (r.0 * d ≡ n * r.1)

-- the number of this sign
abbrev pub signed_by : Bool → ℕ → ℤ
signed_by true n = neg_ℤ (pos n)
signed_by false n = pos n

-- the parts of the sum of a/b and c/d are in the range, where g is the greatest common divisor of b and d
abbrev pub JoinFits : ℤ → ℕ → ℤ → ℕ → ℕ → Type 0
JoinFits a b c d g =
    (b * (d / g) < 2 ^ 127) × (unsigned_abs a * (d / g) < 2 ^ 127) × (unsigned_abs c * (b / g) < 2 ^ 127)
    × (unsigned_abs (a *ℤ pos (d / g) +ℤ c *ℤ pos (b / g)) < 2 ^ 127)
