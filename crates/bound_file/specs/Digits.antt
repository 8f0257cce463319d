-- How the digits of a number are told.
use Rattle.std.specs.Prelude.{◌≡◌, Bool, true, false, not, nat_eq, ◌&&◌, ◌||◌, ◌==◌, [], ◌∷◌, length}
use Rattle.std.specs.Str.{all_ascii_digits}
use Rattle.raml_syntax.specs.Tree.{Text}

-- one or more digits, the first of them a zero only where it is the only one
abbrev pub is_number : Text → Bool
is_number [] = false
is_number (byte ∷ text) = (not (nat_eq byte 48) || length text == 0) && all_ascii_digits (byte ∷ text)

-- the digits are those of a number, and the others are too, or there are none
abbrev pub AreNumbers : Text → Text → Type 0
AreNumbers numerator denominator = (is_number numerator ≡ true) × ((length denominator == 0 || is_number denominator) ≡ true)
