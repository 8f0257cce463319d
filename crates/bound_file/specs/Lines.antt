-- Declared bounds.
use Rattle.std.specs.Prelude.{◌≤◌, ◌<◌, ◌^◌, ℕ, suc, nat_eq, cond, List, [], ◌∷◌}
use Rattle.cost_free.specs.declared.task.Meter.{Meter}

-- what is declared at a position of a function's arguments: a numerator over a denominator
pub record Coefficient : Type 0 where
  pub position : ℕ
  pub numerator : ℕ
  pub denominator : ℕ

-- that a function costs at most so much on a meter
pub record Line : Type 0 where
  pub fun : ℕ
  pub meter : Meter
  pub bound : List Coefficient

-- declared bounds over the indices up to a degree
pub record Declaration : Type 0 where
  pub degree : ℕ
  pub lines : List Line

abbrev pub ArePositive : List Coefficient → Type 0
ArePositive [] = Unit {0}
ArePositive (c ∷ cs) = (0 < c.denominator) × ArePositive cs

-- what is declared at this position; where nothing is, 0 over 1
abbrev pub numerator_at : List Coefficient → ℕ → ℕ
numerator_at [] k = 0
numerator_at (c ∷ cs) k = cond (nat_eq k c.position) c.numerator (numerator_at cs k)

abbrev pub denominator_at : List Coefficient → ℕ → ℕ
denominator_at [] k = 1
denominator_at (c ∷ cs) k = cond (nat_eq k c.position) c.denominator (denominator_at cs k)

-- positions from this one on, each once and in order
abbrev pub AscendFrom : ℕ → List Coefficient → Type 0
AscendFrom k [] = Unit {0}
AscendFrom k (c ∷ cs) = (k ≤ c.position) × AscendFrom (suc c.position) cs

-- they are from 1 to 2^127 - 1
abbrev pub AreInRange : List Coefficient → Type 0
AreInRange [] = Unit {0}
AreInRange (c ∷ cs) = (0 < c.numerator) × (c.numerator < 2 ^ 127) × (0 < c.denominator) × (c.denominator < 2 ^ 127) × AreInRange cs

-- the positions are below this one
abbrev pub AreBelow : ℕ → List Coefficient → Type 0
AreBelow n [] = Unit {0}
AreBelow n (c ∷ cs) = (c.position < n) × AreBelow n cs

-- a bound lists its positions in order, each once, with numbers in range
pub record IsProper (line : Line) : Type 0 where
  pub ascend : AscendFrom 0 line.bound
  pub numbers : AreInRange line.bound
