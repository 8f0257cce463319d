-- The text of a fraction.
use Rattle.std.specs.Prelude.{ℕ, List, ◌++◌, nat_eq, cond, codes}
use Rattle.std.specs.Fmt.{decimal, signed_decimal}
use Rattle.frac128.specs.declared.Frac.{Frac}

-- the numerator, and the denominator where it is not 1
abbrev pub text_of : Frac → List ℕ
text_of x = cond (nat_eq x.den 1) (signed_decimal x.num) (signed_decimal x.num ++ (codes "/" ++ decimal x.den))
