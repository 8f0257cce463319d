-- Places and parts of a text as JSON, as the client counts them.
use Rattle.std.specs.Prelude.{ℕ, List, map, max, codes}
use Rattle.serde_json.specs.Data.{Data, number, unsigned, string, array, object, member, no_members}
use Rattle.serde_json.specs.View.{items_of}
use Rattle.lsp_positions.specs.Positions.{position_of}
use Rattle.lsp_positions.specs.declared.position.Encoding.{Encoding}
use Rattle.lsp_positions.specs.declared.position.Position.{Position}
use Rattle.lsp_language.specs.declared.span.Span.{Span}

abbrev pub natural : ℕ → Data
natural n = number (unsigned n)

abbrev pub list_json : List Data → Data
list_json ds = array (items_of ds)

abbrev pub position_json : Position → Data
position_json p = object (member (codes "character") (natural p.character) (member (codes "line") (natural p.line) no_members))

abbrev pub range_json : Data → Data → Data
range_json start end = object (member (codes "end") end (member (codes "start") start no_members))

-- the position of a byte of the text
abbrev pub place_json : Encoding → List ℕ → ℕ → Data
place_json encoding text place = position_json (position_of encoding text place)

-- A part whose end is not behind its start is the place at its start.
abbrev pub end_of : Span → ℕ
end_of span = max span.start span.end

abbrev pub span_json : Encoding → List ℕ → Span → Data
span_json encoding text span = range_json (place_json encoding text span.start) (place_json encoding text (end_of span))
