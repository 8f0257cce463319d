-- One fraction more.
use Rattle.std.specs.Prelude.{◌≡◌, ◌≤◌, ◌<◌, ℕ, ℤ, pos}
use Rattle.raml_num.specs.Divisors.{IsLcm}
use Rattle.simplex_integers.specs.Wholes.{most}

-- the least common multiple, which is of 128 bits
pub record IsNext (a n m : ℕ) : Type 0 where
  pub lcm : IsLcm a n m
  pub fits : m < most
  pub positive : 0 < m

-- it is not of 128 bits
abbrev pub NoNext : ℕ → ℕ → Type 0
NoNext a n = (m : ℕ) → 0 < m → IsLcm a n m → most ≤ m

-- a natural number of 128 bits, as a signed one
pub record IsNumber (n : ℕ) (z : ℤ) : Type 0 where
  pub is : z ≡ pos n
  pub fits : n < most
