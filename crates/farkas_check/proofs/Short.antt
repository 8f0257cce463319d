-- Products of numbers of few bits.
use Rattle.std.proofs.Common.{◌*ℤ◌, ◌<◌, ◌^◌, ◌*◌, ℤ, FitsSigned, unsigned_abs, arith}
use Rattle.std.proofs.lemmas.Int.{ints, unsigned_abs-mul}
use Rattle.std.proofs.lemmas.Nat.{mul-lt}
use Rattle.std.specs.Int.{w128}

in_range : (n : ℤ) → unsigned_abs n < 2 ^ 127 → FitsSigned w128 n
in_range n h = omega (arith, ints)

pub product_fits : (a b : ℤ) → unsigned_abs a < 2 ^ 63 → unsigned_abs b < 2 ^ 63 → FitsSigned w128 (a *ℤ b)
product_fits a b h k =
    let l : unsigned_abs a * unsigned_abs b < 2 ^ 63 * 2 ^ 63 = mul-lt (unsigned_abs a) (unsigned_abs b) (2 ^ 63) (2 ^ 63) h k in
    let m : unsigned_abs (a *ℤ b) < 2 ^ 127 = rw (unsigned_abs-mul a b) (omega arith) in
    in_range (a *ℤ b) m
