-- Numbers that count up and numbers that count down.
use Rattle.std.proofs.Common.{◌≡◌, refl, List, [], ◌∷◌, ℤ, pos, ◌+ℤ◌, ◌≤ℤ◌, arith}
use Rattle.std.proofs.lemmas.Int.{ints}
use lib.IntN.{negsuc}
use Rattle.raml_num.specs.Sums.{total}
use Rattle.farkas_check.specs.Totals.{gain, loss, gains, losses}

pub gain_is : (z : ℤ) → (pos 0 ≤ℤ gain z) × (z ≤ℤ gain z)
gain_is (pos n) = omega (arith, ints)
gain_is (negsuc n) = omega (arith, ints)

pub loss_is : (z : ℤ) → (loss z ≤ℤ pos 0) × (loss z ≤ℤ z)
loss_is (pos n) = omega (arith, ints)
loss_is (negsuc n) = omega (arith, ints)

pub gain_of : (z : ℤ) → pos 0 ≤ℤ z → (gain z ≡ z) × (loss z ≡ pos 0)
gain_of (pos n) h = (refl, refl)
gain_of (negsuc n) h = absurd (omega (arith, ints))

pub loss_of : (z : ℤ) → z ≤ℤ pos 0 → (gain z ≡ pos 0) × (loss z ≡ z)
loss_of (pos n) h = omega (arith, ints)
loss_of (negsuc n) h = (refl, refl)

pub gains_low : (zs : List ℤ) → pos 0 ≤ℤ gains zs
gains_low [] = omega (arith, ints)
gains_low (z ∷ zs) = omega (arith, ints, gain_is z, gains_low zs)

pub losses_high : (zs : List ℤ) → losses zs ≤ℤ pos 0
losses_high [] = omega (arith, ints)
losses_high (z ∷ zs) = omega (arith, ints, loss_is z, losses_high zs)

both : (z : ℤ) → gain z +ℤ loss z ≡ z
both (pos n) = omega (arith, ints)
both (negsuc n) = omega (arith, ints)

-- the two totals make the whole
pub total_of : (zs : List ℤ) → gains zs +ℤ losses zs ≡ total zs
total_of [] = omega (arith, ints)
total_of (z ∷ zs) = omega (arith, ints, both z, total_of zs)
