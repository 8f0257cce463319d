-- What a row and a lead are multiplied by, before the one is taken from the other.
use Rattle.std.specs.Prelude.{◌≡◌, ℤ, pos, ◌*ℤ◌, ◌<ℤ◌}

-- the number is times, and the denominator own, times a divisor
pub record Shares (number den own times : ℤ) : Type 0 where
  pub divisor : ℤ
  pub own_positive : pos 0 <ℤ own
  pub divisor_positive : pos 0 <ℤ divisor
  pub number_is : number ≡ times *ℤ divisor
  pub den_is : den ≡ own *ℤ divisor
