-- What a header part tells: the length of the content.
use Rattle.std.specs.Prelude.{ℕ, ◌+◌, ◌*◌, ◌-◌, Bool, cond, ◌&&◌, not, nat_eq, nat_le, List}
use Rattle.std.specs.Prelude.{[], ◌∷◌, Option, None, Some, Result, Ok, Err, length, take, drop, codes}
use Rattle.std.specs.List.{list_all}
use Rattle.std.specs.Char.{is_ascii_digit}
use Rattle.std.specs.Str.{bytes_eq, str_to_ascii_lowercase}
use Rattle.lsp_frames.specs.Marks.{colon, first_place, lines, trimmed}
use Rattle.lsp_frames.specs.declared.field.FrameFault.{FrameFault}
use Rattle.lsp_frames.specs.declared.field.FrameFault.TheVariants.{MalformedHeader, NotANumber, LengthTwice, NoLength, ContentTooLong}

-- 64 MiB
abbrev pub most_content : ℕ
most_content = 67108864

-- digits, at least one
abbrev pub is_numeral : List ℕ → Bool
is_numeral text = not (nat_eq (length text) 0) && list_all is_ascii_digit text

-- the number that digits write behind those of n
abbrev pub number_after : ℕ → List ℕ → ℕ
number_after n [] = n
number_after n (digit ∷ digits) = number_after (n * 10 + (digit - 48)) digits

-- the length that a text tells
abbrev pub number_in : List ℕ → Result (Option ℕ) FrameFault
number_in text =
    cond (is_numeral text)
    (cond (nat_le (number_after 0 text) most_content) (Ok (Some (number_after 0 text))) (Err ContentTooLong))
    (Err NotANumber)

-- The name of a field is what stands before the colon. Capitals and small letters are one.
abbrev pub is_length : List ℕ → Bool
is_length name = bytes_eq (str_to_ascii_lowercase name) (codes "content-length")

-- the length that a field tells; blanks around its value are no part of it
abbrev pub told_in : List ℕ → List ℕ → Result (Option ℕ) FrameFault
told_in name value = cond (is_length name) (number_in (trimmed value)) (Ok None)

-- what a line tells that has its first colon at this place
abbrev pub told_at : List ℕ → Option ℕ → Result (Option ℕ) FrameFault
told_at line None = Err MalformedHeader
told_at line (Some place) = told_in (take place line) (drop (place + 1) line)

-- what a line tells
abbrev pub told_by : List ℕ → Result (Option ℕ) FrameFault
told_by line = told_at line (first_place colon line)

-- what is told once one line more is read: a length is told once
abbrev pub with_told : Option ℕ → Result (Option ℕ) FrameFault → Result (Option ℕ) FrameFault
with_told told (Err fault) = Err fault
with_told told (Ok None) = Ok told
with_told None (Ok (Some n)) = Ok (Some n)
with_told (Some m) (Ok (Some n)) = Err LengthTwice

-- the length, once all lines are read
abbrev pub length_at_end : Result (Option ℕ) FrameFault → Result ℕ FrameFault
length_at_end (Ok (Some n)) = Ok n
length_at_end (Ok None) = Err NoLength
length_at_end (Err fault) = Err fault

abbrev pub and_then : Result (Option ℕ) FrameFault → (Option ℕ → Result ℕ FrameFault) → Result ℕ FrameFault
and_then (Ok told) go = go told
and_then (Err fault) go = Err fault

-- the length once the lines are read, where this much was told before them; the first fault from the top
abbrev pub length_after : Option ℕ → List (List ℕ) → Result ℕ FrameFault
length_after told [] = length_at_end (Ok told)
length_after told (line ∷ others) = and_then (with_told told (told_by line)) (λ now. length_after now others)

-- the length that a header part tells
abbrev pub length_in : List ℕ → Result ℕ FrameFault
length_in header = length_after None (lines header)
