-- Where a byte of a text stands. A text is the list of its bytes, and an offset past its end is as one at its end.
use Rattle.std.specs.Prelude.{ℕ, ◌+◌, ◌-◌, ◌&&◌, cond, not, nat_eq, nat_le, Bool, List, [], ◌∷◌, ◌++◌, reverse, length, take, drop}

-- the byte of a newline
abbrev pub is_newline : ℕ → Bool
is_newline byte = nat_eq byte 0x0A

-- A character begins at each byte that is no continuation byte of UTF-8.
abbrev pub begins_character : ℕ → Bool
begins_character byte = not (nat_le 0x80 byte && nat_le byte 0xBF)

-- how many of the bytes pass the test
abbrev pub how_many : (ℕ → Bool) → List ℕ → ℕ
how_many test [] = 0
how_many test (byte ∷ bytes) = cond (test byte) 1 0 + how_many test bytes

-- what stands before the first newline, or all where there is none
abbrev pub to_newline : List ℕ → List ℕ
to_newline [] = []
to_newline (byte ∷ bytes) = cond (is_newline byte) [] (byte ∷ to_newline bytes)

-- what stands between the last newline before the offset and the offset, or all before it where there is none
abbrev pub line_before : List ℕ → ℕ → List ℕ
line_before text offset = reverse (to_newline (reverse (take offset text)))

-- 1, and one for each newline before the offset
abbrev pub line : List ℕ → ℕ → ℕ
line text offset = 1 + how_many is_newline (take offset text)

-- where the line starts
abbrev pub line_start : List ℕ → ℕ → ℕ
line_start text offset = length (take offset text) - length (line_before text offset)

-- 1, and one for each character of the line that begins before the offset
abbrev pub column : List ℕ → ℕ → ℕ
column text offset = 1 + how_many begins_character (line_before text offset)

-- the line: from its start to before the next newline, or to the end
abbrev pub line_text : List ℕ → ℕ → List ℕ
line_text text offset = line_before text offset ++ to_newline (drop offset text)
