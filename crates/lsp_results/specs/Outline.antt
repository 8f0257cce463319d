-- What an outline shows of a text, and which of its lines can be folded away.
use Rattle.std.specs.Prelude.{◌≡◌, ℕ, Bool, nat_lt, List, map, codes, string_bytes}
use Rattle.std.specs.List.{filter}
use Rattle.serde_json.specs.Data.{Data, string, object, member, no_members}
use Rattle.lsp_positions.specs.Positions.{position_of}
use Rattle.lsp_positions.specs.declared.position.Encoding.{Encoding}
use Rattle.lsp_language.specs.Telling.{Telling}
use Rattle.lsp_language.specs.declared.names.Symbol.{Symbol}
use Rattle.lsp_results.specs.Places.{natural, list_json, end_of, span_json}

-- each is shown as a function
abbrev pub symbol_json : Encoding → List ℕ → Symbol → Data
symbol_json encoding text symbol =
    object (member (codes "kind") (natural 12) (member (codes "name") (string (string_bytes symbol.name))
    (member (codes "range") (span_json encoding text symbol.whole)
    (member (codes "selectionRange") (span_json encoding text symbol.binding) no_members))))

abbrev pub symbols_json : Encoding → List ℕ → List Symbol → Data
symbols_json encoding text symbols = list_json (map (symbol_json encoding text) symbols)

-- the lines in which all that belongs to it begins and ends
abbrev pub first_line : Encoding → List ℕ → Symbol → ℕ
first_line encoding text symbol = (position_of encoding text symbol.whole.start).line

abbrev pub last_line : Encoding → List ℕ → Symbol → ℕ
last_line encoding text symbol = (position_of encoding text (end_of symbol.whole)).line

abbrev pub has_lines : Encoding → List ℕ → Symbol → Bool
has_lines encoding text symbol = nat_lt (first_line encoding text symbol) (last_line encoding text symbol)

abbrev pub fold_json : Encoding → List ℕ → Symbol → Data
fold_json encoding text symbol =
    object (member (codes "endLine") (natural (last_line encoding text symbol))
    (member (codes "startLine") (natural (first_line encoding text symbol)) no_members))

-- What begins and ends in different lines can be folded.
abbrev pub folds_json : Encoding → List ℕ → List Symbol → Data
folds_json encoding text symbols = list_json (map (fold_json encoding text) (filter (has_lines encoding text) symbols))

-- The answer by what the language shows in an outline.
abbrev pub IsOfSymbols : Telling → List ℕ → (List Symbol → Data) → Data → Type 0
IsOfSymbols tells text json answer = (symbols : List Symbol) × tells.symbols text symbols × (answer ≡ json symbols)
