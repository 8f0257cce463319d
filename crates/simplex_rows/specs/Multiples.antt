-- Whole numbers that have a factor in common.
use Rattle.std.specs.Prelude.{List, [], ◌∷◌, ℤ, unsigned_abs, int_div}
use Rattle.simplex_rows.specs.ShortRows.{Wholes}
use Prim.Native.Nat.{◌∣◌}

-- k divides n
abbrev pub IsMultiple : ℤ → ℤ → Type 0
IsMultiple k n = unsigned_abs k ∣ unsigned_abs n

-- k divides each number
abbrev pub AreMultiples : ℤ → List ℤ → Type 0
AreMultiples k [] = Unit {0}
AreMultiples k (n ∷ ns) = IsMultiple k n × AreMultiples k ns

-- each number over k
abbrev pub quotients : ℤ → Wholes → Wholes
quotients k [] = []
quotients k ((c, n) ∷ ns) = (c, int_div n k) ∷ quotients k ns
