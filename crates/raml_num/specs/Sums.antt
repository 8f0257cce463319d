-- Sums of whole numbers.
use Rattle.std.specs.Prelude.{List, [], ◌∷◌, ℤ, pos, ◌+ℤ◌, ◌≤ℤ◌}

-- the sum of all terms
abbrev pub total : List ℤ → ℤ
total [] = pos 0
total (x ∷ xs) = x +ℤ total xs

-- none of them is negative
abbrev pub NoneNegative : List ℤ → Type 0
NoneNegative [] = Unit {0}
NoneNegative (x ∷ xs) = (pos 0 ≤ℤ x) × NoneNegative xs
