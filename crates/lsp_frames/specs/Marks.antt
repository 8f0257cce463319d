-- Marks in bytes, and what they part.
use Rattle.std.specs.Prelude.{ℕ, suc, ◌≡◌, ◌<◌, Bool, false, cond, List, [], ◌∷◌}
use Rattle.std.specs.Prelude.{Option, None, Some, option_map, length, take, drop, reverse, nat_eq, ◌||◌}
use Rattle.std.specs.Str.{bytes_eq}

-- the end of a line of a header, and the end of its last line with the blank line behind it
abbrev pub line_end : List ℕ
line_end = 13 ∷ 10 ∷ []

abbrev pub blank_line : List ℕ
blank_line = 13 ∷ 10 ∷ 13 ∷ 10 ∷ []

abbrev pub colon : List ℕ
colon = 58 ∷ []

-- the bytes begin with the mark
abbrev pub begins : List ℕ → List ℕ → Bool
begins mark bytes = bytes_eq mark (take (length mark) bytes)

-- the first place at which the mark stands
abbrev pub first_place : List ℕ → List ℕ → Option ℕ
first_place mark [] = None
first_place mark (byte ∷ bytes) = cond (begins mark (byte ∷ bytes)) (Some 0) (option_map suc (first_place mark bytes))

-- the mark stands at no place before this one
abbrev pub NoneBefore : List ℕ → ℕ → List ℕ → Type 0
NoneBefore mark place bytes = (k : ℕ) → k < place → begins mark (drop k bytes) ≡ false

abbrev pub longer : ℕ → List (List ℕ) → List (List ℕ)
longer byte [] = (byte ∷ []) ∷ []
longer byte (line ∷ lines) = (byte ∷ line) ∷ lines

-- what stands between the ends of lines
abbrev pub lines : List ℕ → List (List ℕ)
lines [] = [] ∷ []
lines (byte ∷ []) = (byte ∷ []) ∷ []
lines (byte ∷ next ∷ bytes) = cond (begins line_end (byte ∷ next ∷ bytes)) ([] ∷ lines bytes) (longer byte (lines (next ∷ bytes)))

-- a space or a tab
abbrev pub is_blank : ℕ → Bool
is_blank byte = nat_eq byte 32 || nat_eq byte 9

-- without the blanks at its start
abbrev pub after_blanks : List ℕ → List ℕ
after_blanks [] = []
after_blanks (byte ∷ bytes) = cond (is_blank byte) (after_blanks bytes) (byte ∷ bytes)

-- without the blanks at its end
abbrev pub before_blanks : List ℕ → List ℕ
before_blanks text = reverse (after_blanks (reverse text))

abbrev pub trimmed : List ℕ → List ℕ
trimmed text = before_blanks (after_blanks text)
