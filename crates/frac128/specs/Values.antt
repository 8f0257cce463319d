-- What a fraction stands for, and sums and products of fractions.
use Rattle.std.specs.Prelude.{◌≡◌, ℕ, ◌*◌, ◌/◌, ◌<◌, ◌^◌, ℤ, pos, ◌*ℤ◌, ◌+ℤ◌, ◌-ℤ◌, unsigned_abs, neg_ℤ, Option, Some, None}
use Rattle.frac128.specs.declared.Frac.{Frac}

abbrev pub numerator : Frac → ℤ
numerator x = x.num

abbrev pub denominator : Frac → ℕ
denominator x = x.den

-- r is n over d
abbrev pub IsOver : ℤ → ℕ → Frac → Type 0
IsOver n d r = r.num *ℤ pos d ≡ n *ℤ pos r.den

-- r is x times y
abbrev pub IsProduct : Frac → Frac → Frac → Type 0
IsProduct x y r = IsOver (x.num *ℤ y.num) (x.den * y.den) r

-- r is what gives x when multiplied by y
abbrev pub IsQuotient : Frac → Frac → Frac → Type 0
IsQuotient x y r = IsProduct r y x

-- r is 1 over x
abbrev pub IsReciprocal : Frac → Frac → Type 0
IsReciprocal x r = r.num *ℤ x.num ≡ pos (x.den * r.den)

-- r is x plus y
abbrev pub IsSum : Frac → Frac → Frac → Type 0
IsSum x y r = IsOver (x.num *ℤ pos y.den +ℤ y.num *ℤ pos x.den) (x.den * y.den) r

-- r is x minus y
abbrev pub IsDifference : Frac → Frac → Frac → Type 0
IsDifference x y r = IsOver (x.num *ℤ pos y.den -ℤ y.num *ℤ pos x.den) (x.den * y.den) r

-- a numerator that a fraction can have
abbrev pub Fits : ℤ → Type 0
Fits n = unsigned_abs n < 2 ^ 127

-- a/b and c/d over the denominator m, and the sum of the two numerators, are in the range
pub record PartsFit (a : ℤ) (b : ℕ) (c : ℤ) (d m : ℕ) : Type 0 where
  pub common : m < 2 ^ 127
  pub left : Fits (a *ℤ pos (m / b))
  pub right : Fits (c *ℤ pos (m / d))
  pub both : Fits (a *ℤ pos (m / b) +ℤ c *ℤ pos (m / d))

abbrev pub SumFits : Frac → Frac → ℕ → Type 0
SumFits x y m = PartsFit x.num x.den y.num y.den m

abbrev pub DifferenceFits : Frac → Frac → ℕ → Type 0
DifferenceFits x y m = PartsFit x.num x.den (neg_ℤ y.num) y.den m

-- the fraction of which P holds, or none exactly where there is none
abbrev pub Tells : (Frac → Type 0) → Option Frac → Type 0
Tells P None = (r : Frac) → P r → ⊥
Tells P (Some r) = P r
