-- The lines of a text, which is the list of its bytes.
use Rattle.std.specs.Prelude.{ℕ, ◌+◌, Bool, cond, ◌&&◌, ◌||◌, not, nat_eq, nat_le, List, [], ◌∷◌, slice_index}

abbrev pub is_newline : ℕ → Bool
is_newline byte = nat_eq byte 10

abbrev pub is_return : ℕ → Bool
is_return byte = nat_eq byte 13

-- a line ends with the byte, where this stands behind it: with a newline, and with a return that no newline follows
abbrev pub ends_line : ℕ → List ℕ → Bool
ends_line byte behind = is_newline byte || (is_return byte && not (is_newline (slice_index behind 0)))

-- where lines start in the bytes of a text from a place on, but for the line in which the place stands
abbrev pub starts_behind : ℕ → List ℕ → List ℕ
starts_behind place [] = []
starts_behind place (byte ∷ bytes) =
    cond (ends_line byte bytes) ((place + 1) ∷ starts_behind (place + 1) bytes) (starts_behind (place + 1) bytes)

-- where each line starts
abbrev pub line_starts : List ℕ → List ℕ
line_starts text = 0 ∷ starts_behind 0 text

abbrev pub how_many : (ℕ → Bool) → List ℕ → ℕ
how_many test [] = 0
how_many test (x ∷ xs) = cond (test x) 1 0 + how_many test xs

-- the line of a place, from 0 on: as many lines as start behind the first and not behind the place
abbrev pub line_at : List ℕ → ℕ → ℕ
line_at text place = how_many (λ start. nat_le start place) (starts_behind 0 text)

-- where a line starts
abbrev pub line_start : List ℕ → ℕ → ℕ
line_start text line = slice_index (line_starts text) line

-- a byte of the ending of a line
abbrev pub is_ending : ℕ → Bool
is_ending byte = is_newline byte || is_return byte

-- what stands before the first ending of a line
abbrev pub before_ending : List ℕ → List ℕ
before_ending [] = []
before_ending (byte ∷ bytes) = cond (is_ending byte) [] (byte ∷ before_ending bytes)
