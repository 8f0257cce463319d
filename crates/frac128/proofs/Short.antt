-- Products of numbers of few bits.
use Rattle.std.proofs.Common.{◌*ℤ◌, ◌<◌, ◌^◌, ◌*◌, ℤ, FitsSigned, unsigned_abs, arith}
use Rattle.std.proofs.lemmas.Int.{ints, unsigned_abs-mul}
use Rattle.std.proofs.lemmas.Nat.{mul-lt}
use Rattle.std.specs.Int.{w128}

pub short_product : (a b : ℤ) → unsigned_abs a < 2 ^ 63 → unsigned_abs b < 2 ^ 63 → unsigned_abs (a *ℤ b) < 2 ^ 127
short_product a b h k =
    let l : unsigned_abs a * unsigned_abs b < 2 ^ 63 * 2 ^ 63 = mul-lt (unsigned_abs a) (unsigned_abs b) (2 ^ 63) (2 ^ 63) h k in
    rw (unsigned_abs-mul a b) (omega (arith, l))

pub it_fits : (n : ℤ) → unsigned_abs n < 2 ^ 127 → FitsSigned w128 n
it_fits n h = omega (arith, ints)
