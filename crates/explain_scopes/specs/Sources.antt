-- The names of a source.
use Rattle.std.specs.Prelude.{◌≡◌, ◌<◌, ◌^◌, ◌⊎◌, ℕ, List, [], ◌∷◌, ◌++◌, cond, length}
use Rattle.raml_syntax.specs.Tree.{Text, Prog}
use Rattle.raml_parse.specs.Spelling.{HasTokens, Spells, place_of}
use Rattle.parse_table.specs.Tokens.{Token, is_key}
use Rattle.parse_table.specs.declared.token.Sign.TheVariants as s
use Rattle.explain_scopes.specs.Scopes.{Occurrence, occurrences}

-- the place of the token behind a `fun`
abbrev pub place_behind : Token → List Token → List ℕ
place_behind t (u ∷ ts) = cond (is_key s.Fun t) (place_of u ∷ []) []
place_behind t [] = []

-- where the names of functions stand
abbrev pub function_places : List Token → List ℕ
function_places [] = []
function_places (t ∷ ts) = place_behind t ts ++ function_places ts

-- the names of the program that the source spells
pub record AreNamesOf (source : Text) (P : Prog) (os : List Occurrence) : Type 0 where
  pub spelled : Spells source P
  pub tokens : List Token
  pub has : HasTokens source tokens
  pub are : os ≡ occurrences (function_places tokens) P

-- it spells no program
abbrev pub HasNoNames : Text → Type 0
HasNoNames source = length source < 2 ^ 31 → (P : Prog) → Spells source P → ⊥

-- what is asked of its names holds, or it spells no program and the other does
abbrev pub OfNames : Text → (List Occurrence → Type 0) → Type 0 → Type 0
OfNames source Asked Other = ((P : Prog) × (os : List Occurrence) × AreNamesOf source P os × Asked os) ⊎ (HasNoNames source × Other)
