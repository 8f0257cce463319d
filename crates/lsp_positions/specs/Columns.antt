-- Columns, which count code units.
use Rattle.std.specs.Prelude.{ℕ, zero, suc, ◌+◌, Bool, cond, ◌&&◌, ◌||◌, not, nat_le, List, [], ◌∷◌, length, take, slice_index}
use Rattle.lsp_positions.specs.declared.position.Encoding.{Encoding}
use Rattle.lsp_positions.specs.declared.position.Encoding.TheVariants.{Utf16, Utf8}

-- A character begins at each byte that is no continuation byte of UTF-8.
abbrev pub begins_character : ℕ → Bool
begins_character byte = not (nat_le 0x80 byte && nat_le byte 0xBF)

-- The code units of a character, counted at its first byte: in UTF-16 two beyond U+FFFF, where it takes four bytes,
-- and one before. In UTF-8 each byte is one.
abbrev pub units_of : Encoding → ℕ → ℕ
units_of Utf16 byte = cond (begins_character byte) (cond (nat_le 0xF0 byte) 2 1) 0
units_of Utf8 byte = 1

abbrev pub units : Encoding → List ℕ → ℕ
units encoding [] = 0
units encoding (byte ∷ bytes) = units_of encoding byte + units encoding bytes

-- a character begins at the place, or the text ends there
abbrev pub is_boundary : List ℕ → ℕ → Bool
is_boundary text place = nat_le (length text) place || begins_character (slice_index text place)

-- the last number below n that passes the test, and 0 where none does
abbrev pub last_below : (ℕ → Bool) → ℕ → ℕ
last_below test zero = 0
last_below test (suc n) = cond (test n) n (last_below test n)

-- the place in a line is one at which a character begins or the line ends, and no more units stand before it
abbrev pub is_within : Encoding → List ℕ → ℕ → ℕ → Bool
is_within encoding line column place = is_boundary line place && nat_le (units encoding (take place line)) column

-- The place of a column in a line: the last such place. So a column within a character is the beginning of the character,
-- and one beyond the line is its end.
abbrev pub at_column : Encoding → List ℕ → ℕ → ℕ
at_column encoding line column = last_below (is_within encoding line column) (length line + 1)
