-- What is answered of the names of a text.
use Rattle.std.specs.Prelude.{◌≡◌, ℕ, Bool, cond, List, [], ◌∷◌, map, codes, Option, None, Some}
use Rattle.serde_json.specs.Data.{Data, null, object, member, no_members}
use Rattle.lsp_positions.specs.Positions.{offset_of}
use Rattle.lsp_positions.specs.declared.position.Encoding.{Encoding}
use Rattle.lsp_language.specs.Telling.{Telling}
use Rattle.lsp_language.specs.declared.names.Named.{Named}
use Rattle.lsp_language.specs.declared.span.Span.{Span}
use Rattle.lsp_params.specs.declared.asking.NamesAsk.{NamesAsk}
use Rattle.lsp_params.specs.declared.asking.NamesAsk.TheVariants.{Definition, References, Highlights, Symbols, Folds, Prepare}
use Rattle.lsp_results.specs.Places.{natural, list_json, span_json}
use Rattle.lsp_results.specs.Diagnostics.{location_json}
use Rattle.lsp_results.specs.Outline.{IsOfSymbols, symbols_json, folds_json}
use Rattle.lsp_results.specs.Renames.{prepared_json}

abbrev pub location_of : Encoding → List ℕ → List ℕ → Span → Data
location_of encoding text uri span = location_json (span_json encoding text span) uri

abbrev pub definition_json : Encoding → List ℕ → List ℕ → Option Named → Data
definition_json encoding text uri None = null
definition_json encoding text uri (Some named) = location_of encoding text uri named.binding

-- where it is used, behind where it is bound, if that is wanted too
abbrev pub places_of : Bool → Named → List Span
places_of declared named = cond declared (named.binding ∷ named.uses.items) named.uses.items

abbrev pub references_json : Encoding → List ℕ → List ℕ → Bool → Option Named → Data
references_json encoding text uri declared None = list_json []
references_json encoding text uri declared (Some named) = list_json (map (location_of encoding text uri) (places_of declared named))

abbrev pub highlight_json : Encoding → List ℕ → ℕ → Span → Data
highlight_json encoding text kind span = object (member (codes "kind") (natural kind) (member (codes "range") (span_json encoding text span) no_members))

-- the binding is written, and its uses are read
abbrev pub highlights_json : Encoding → List ℕ → Option Named → Data
highlights_json encoding text None = list_json []
highlights_json encoding text (Some named) =
    list_json (highlight_json encoding text 3 named.binding ∷ map (highlight_json encoding text 2) named.uses.items)

-- The answer by what the language tells that is named at a place.
abbrev pub IsOfNamed : Telling → List ℕ → ℕ → (Option Named → Data) → Data → Type 0
IsOfNamed tells text place json answer = (named : Option Named) × tells.named text place named × (answer ≡ json named)

-- What is answered where this is asked of the names of a text.
abbrev pub IsOfNames : Telling → Encoding → List ℕ → List ℕ → NamesAsk → Data → Type 0
IsOfNames tells encoding text uri (Definition position) answer =
    IsOfNamed tells text (offset_of encoding text position) (definition_json encoding text uri) answer
IsOfNames tells encoding text uri (References position declared) answer =
    IsOfNamed tells text (offset_of encoding text position) (references_json encoding text uri declared) answer
IsOfNames tells encoding text uri (Highlights position) answer =
    IsOfNamed tells text (offset_of encoding text position) (highlights_json encoding text) answer
IsOfNames tells encoding text uri Symbols answer = IsOfSymbols tells text (symbols_json encoding text) answer
IsOfNames tells encoding text uri Folds answer = IsOfSymbols tells text (folds_json encoding text) answer
IsOfNames tells encoding text uri (Prepare position) answer =
    IsOfNamed tells text (offset_of encoding text position) (prepared_json encoding text (offset_of encoding text position)) answer
