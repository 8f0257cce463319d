-- Positions of a text, and the offsets of its bytes.
use Rattle.std.specs.Prelude.{ℕ, ◌+◌, ◌-◌, ◌≡◌, ◌<◌, cond, min, nat_lt, List, length, take, drop, slice_index}
use Rattle.lsp_positions.specs.Lines.{line_starts, line_start, line_at, before_ending}
use Rattle.lsp_positions.specs.Columns.{units, at_column}
use Rattle.lsp_positions.specs.declared.position.Encoding.{Encoding}
use Rattle.lsp_positions.specs.declared.position.Position.{Position}

-- the position of a place in the text: its line, and the units that stand in the line before it
abbrev pub position_at : Encoding → List ℕ → ℕ → Position
position_at encoding text place =
    record { line = line_at text place; character = units encoding (drop (line_start text (line_at text place)) (take place text)) }

-- An offset beyond the text is as one at its end.
abbrev pub position_of : Encoding → List ℕ → ℕ → Position
position_of encoding text offset = position_at encoding text (min offset (length text))

-- the text of a line, without its ending
abbrev pub line_text : List ℕ → ℕ → List ℕ
line_text text line = before_ending (drop (line_start text line) text)

-- the offset of a position: a line beyond the last is the end of the text
abbrev pub offset_of : Encoding → List ℕ → Position → ℕ
offset_of encoding text position =
    cond (nat_lt position.line (length (line_starts text)))
    (line_start text position.line + at_column encoding (line_text text position.line) position.character)
    (length text)

-- the place stands between the return and the newline of one ending
abbrev pub IsWithinEnding : List ℕ → ℕ → Type 0
IsWithinEnding text place = (0 < place) × (slice_index text (place - 1) ≡ 13) × (slice_index text place ≡ 10)
