-- What is shown where the pointer rests.
use Rattle.std.specs.Prelude.{◌≡◌, ℕ, Bool, cond, ◌&&◌, ◌||◌, nat_eq, nat_le, nat_lt, List, [], ◌∷◌, codes, string_bytes}
use Rattle.std.specs.Prelude.{Option, None, Some}
use Rattle.serde_json.specs.Data.{Data, null, string, object, member, no_members}
use Rattle.lsp_positions.specs.declared.position.Encoding.{Encoding}
use Rattle.lsp_language.specs.Telling.{Telling}
use Rattle.lsp_language.specs.declared.span.Span.{Span}
use Rattle.lsp_language.specs.declared.insight.Hover.{Hover}
use Rattle.lsp_results.specs.Places.{span_json}

-- the place is the start of the part, or between its start and its end
abbrev pub holds : Span → ℕ → Bool
holds span place = nat_eq span.start place || (nat_le span.start place && nat_lt place span.end)

-- the first of them whose part holds the place
abbrev pub first_at : ℕ → List Hover → Option Hover
first_at place [] = None
first_at place (hover ∷ hovers) = cond (holds hover.span place) (Some hover) (first_at place hovers)

abbrev pub markup_json : List ℕ → Data
markup_json text = object (member (codes "kind") (string (codes "markdown")) (member (codes "value") (string text) no_members))

abbrev pub hover_json : Encoding → List ℕ → Hover → Data
hover_json encoding text hover =
    object (member (codes "contents") (markup_json (string_bytes hover.text)) (member (codes "range") (span_json encoding text hover.span) no_members))

abbrev pub hover_or_null : Encoding → List ℕ → Option Hover → Data
hover_or_null encoding text None = null
hover_or_null encoding text (Some hover) = hover_json encoding text hover

-- where none of those that are known is met, it is what the language tells there
abbrev pub IsShownAt : Telling → List ℕ → ℕ → Option Hover → Option Hover → Type 0
IsShownAt tells text place (Some known) hover = hover ≡ Some known
IsShownAt tells text place None hover = tells.hover text place hover

-- The answer to a hover at a place, by those that are known. It is null where nothing is shown.
pub record IsHoverAt (tells : Telling) (encoding : Encoding) (text : List ℕ) (place : ℕ) (known : List Hover) (answer : Data) : Type 0 where
  pub hover : Option Hover
  pub shown : IsShownAt tells text place (first_at place known) hover
  pub is : answer ≡ hover_or_null encoding text hover
