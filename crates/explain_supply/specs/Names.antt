-- Names that no token of a source has.
use Rattle.std.specs.Prelude.{◌≡◌, ℕ, List, [], ◌∷◌, ◌++◌, Bool, false, cond, ◌||◌, nat_le, codes}
use Rattle.std.specs.Str.{bytes_eq}
use Rattle.std.specs.Fmt.{decimal}
use Rattle.raml_syntax.specs.Tree.{Text}
use Rattle.parse_table.specs.Tokens.{Token, Name}

-- of the list that pays for rounds, and of its entries
pub record Names : Type 0 where
  pub rounds : Text
  pub round : Text

-- `rounds` and `round`, or with a number from 2 on behind
abbrev pub numbered : Text → ℕ → Text
numbered name n = cond (nat_le n 1) name (name ++ decimal n)

abbrev pub names_at : ℕ → Names
names_at n = record { rounds = numbered (codes "rounds") n; round = numbered (codes "round") n }

abbrev pub is_name : Text → Token → Bool
is_name x (Name p y) = bytes_eq y x
is_name x _ = false

-- some token is this name
abbrev pub is_used : Text → List Token → Bool
is_used x [] = false
is_used x (t ∷ ts) = is_name x t || is_used x ts

-- no token is one of these names
pub record AreFresh (tokens : List Token) (names : Names) : Type 0 where
  pub rounds : is_used names.rounds tokens ≡ false
  pub round : is_used names.round tokens ≡ false
