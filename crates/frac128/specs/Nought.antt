-- The number 0.
use Rattle.std.specs.Prelude.{pos}
use Rattle.std.proofs.Common.{arith}
use Rattle.std.proofs.Math.Nat.{eq-one_of_dvd-one}
use Rattle.frac128.specs.declared.Frac.{Frac}
use Rattle.frac128.specs.Lowest.{InLowestTerms}

pub zero_over_one : InLowestTerms 0 1
zero_over_one =
    record { small = omega arith; positive = omega arith; fits = omega arith; coprime = record { common = λ d p q. eq-one_of_dvd-one q } }

abbrev pub nought : Frac
nought = record { num = pos 0; den = 1; lowest = zero_over_one }
