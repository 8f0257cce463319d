-- The fraction that two numbers make.
use Rattle.std.specs.Prelude.{◌≡◌, refl, ℕ, suc, ◌+◌, ◌*◌, ◌/◌, ◌<◌, ◌^◌, ℤ, pos, neg_ℤ, unsigned_abs, Bool, true, false, nat_lt, ◌&&◌}
use Rattle.std.proofs.Common.{arith, subst, sym}
use Rattle.std.proofs.lemmas.Int.{ints}
use Rattle.std.proofs.lemmas.Bool.Decides.{nat_tests}
use Rattle.std.proofs.Math.Nat.{one-dvd, div-le_self}
use Rattle.std.specs.Int.{IsGcd}
use lib.IntN.{negsuc}
use Rattle.raml_num.proofs.Dividing.{through, positive_part, reduced}
use Rattle.frac128.specs.declared.Frac.{Frac}
use Rattle.frac128.specs.Lowest.{InLowestTerms}
use Rattle.frac128.specs.Nought.{nought}

-- the greatest common divisor
abbrev pub common : (m n : ℕ) → (g : ℕ) × IsGcd m n g
common m n = let found = through (m + n) m n 1 1 (omega arith) (one-dvd (m * 1)) (one-dvd (n * 1)) in (found.0, found.1)

-- a number over a natural one, rounded to 0
abbrev pub part : ℤ → ℕ → ℤ
part (pos m) g = pos (m / g)
part (negsuc m) g = neg_ℤ (pos (suc m / g))

-- both are in the range, and the second is not 0
abbrev pub are_parts : ℕ → ℕ → Bool
are_parts m d = nat_lt m (2 ^ 127) && (nat_lt 0 d && nat_lt d (2 ^ 127))

part_size : (n : ℤ) (g : ℕ) → unsigned_abs (part n g) ≡ unsigned_abs n / g
part_size (pos m) g = refl
part_size (negsuc m) g = omega (arith, ints)

pub lowest_part : (n : ℤ) (d g : ℕ) → are_parts (unsigned_abs n) d ≡ true →
    IsGcd (unsigned_abs n) d g → InLowestTerms (unsigned_abs (part n g)) (d / g)
lowest_part n d g e divides =
    let small : unsigned_abs n < 2 ^ 127 = grind (arith, nat_tests) in
    let positive : 0 < d = grind (arith, nat_tests) in
    let fits : d < 2 ^ 127 = grind (arith, nat_tests) in
    subst (λ (m : ℕ). InLowestTerms m (d / g)) (sym (part_size n g)) (record {
      small = omega (arith, div-le_self (unsigned_abs n) g);
      positive = positive_part g d positive divides.1;
      fits = omega (arith, div-le_self d g);
      coprime = reduced (unsigned_abs n) d g positive divides;
    })

abbrev pub over_where : (n : ℤ) (d : ℕ) (b : Bool) → are_parts (unsigned_abs n) d ≡ b → Frac
over_where n d true e = let g = common (unsigned_abs n) d in record { num = part n g.0; den = d / g.0; lowest = lowest_part n d g.0 e g.1 }
over_where n d false e = nought

-- n over d in lowest terms where both are in the range and d is positive, and otherwise 0
unfoldable pub over : ℤ → ℤ → Frac
over n d = over_where n (unsigned_abs d) (are_parts (unsigned_abs n) (unsigned_abs d)) refl
