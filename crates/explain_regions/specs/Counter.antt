-- A source with a counter in a region: there is no tick but one that is paid whenever the region is entered.
use Rattle.std.specs.Prelude.{◌≡◌, ◌<◌, ◌^◌, ℕ, length, ◌+◌, ◌-◌, nat_eq, List, [], ◌∷◌, ◌++◌, cond, codes}
use Rattle.raml_syntax.specs.Tree.{Text}
use Rattle.raml_parse.specs.Spelling.{HasTokens, place_of}
use Rattle.parse_table.specs.Tokens.{Token, is_key}
use Rattle.parse_table.specs.declared.token.Sign.TheVariants as s
use Rattle.explain_edits.specs.Edits.{Edit}

-- a tick in front of the token with which the region begins
abbrev pub insertion : ℕ → Token → List Edit
insertion region t = cond (nat_eq (place_of t) region) (record { at = region; length = 0; text = codes " tick 1 in " } ∷ []) []

-- a space in place of what begins there and ends with the `in` that stands there
abbrev pub removed : ℕ → ℕ → Edit
removed from last = record { at = from; length = (last + 2) - from; text = codes " " }

-- `tick`, the number and the `in` behind it are taken out
abbrev pub removal : Token → List Token → List Edit
removal t (n ∷ i ∷ ts) = cond (is_key s.Tick t) (removed (place_of t) (place_of i) ∷ []) []
removal t _ = []

abbrev pub edits : ℕ → List Token → List Edit
edits region [] = []
edits region (t ∷ ts) = insertion region t ++ (removal t ts ++ edits region ts)

-- a source of fewer than 2^31 bytes, which has tokens
pub record IsLexed (source : Text) : Type 0 where
  pub short : length source < 2 ^ 31
  pub tokens : List Token
  pub has : HasTokens source tokens

-- The edits of a source that put a counter in the region that begins there.
pub record AreCounterEdits (source : Text) (region : ℕ) (made : List Edit) : Type 0 where
  pub tokens : List Token
  pub has : HasTokens source tokens
  pub are : made ≡ edits region tokens
