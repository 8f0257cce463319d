-- What single words spell.
use Rattle.std.specs.Prelude.{ℕ, ◌^◌, ◌-◌, Bool, not, cond, ◌&&◌, nat_eq, nat_le, length, [], ◌∷◌, codes}
use Rattle.std.specs.Prelude.{Option, Some, None, option_map, option_and_then}
use Rattle.std.specs.Str.{bytes_eq, all_ascii_digits}
use Rattle.std.specs.Str.Parse.{digits_value}
use Rattle.std.specs.Borrow.{Bor}
use Rattle.clap.specs.Walk.{Text}
use Rattle.explain_words.specs.declared.within.Meter.{Meter}
use Rattle.explain_words.specs.declared.within.Meter.TheVariants.{Ticks, Cells, Work}
use Rattle.explain_words.specs.declared.within.Within.{Within}

abbrev pub lent : Option (Bor Text) → Option Text
lent = option_map (λ (text : Bor Text). text.now)

abbrev pub lent_parts : Option (Bor Text × Bor Text) → Option (Text × Text)
lent_parts = option_map (λ (p : Bor Text × Bor Text). (p.0.now, p.1.now))

-- ---- numbers

-- digits, at least one
abbrev pub are_digits : Text → Bool
are_digits word = not (nat_eq (length word) 0) && all_ascii_digits word

-- and at most so many
abbrev pub is_numeral : ℕ → Text → Bool
is_numeral digits word = are_digits word && nat_le (length word) digits

abbrev pub ranged : ℕ → ℕ → ℕ → Option ℕ
ranged least most value = cond (nat_le least value && nat_le value most) (Some value) None

-- the number that at most so many digits spell, where it is in the range
abbrev pub number_in : ℕ → ℕ → ℕ → Text → Option ℕ
number_in digits least most word = cond (is_numeral digits word) (ranged least most (digits_value 10 word)) None

-- `1`, `2`, `3` or `4`
abbrev pub degree_in : Text → Option ℕ
degree_in = number_in 1 1 4

-- at most twenty digits, and less than 2 ^ 64
abbrev pub seed_in : Text → Option ℕ
seed_in = number_in 20 0 (2 ^ 64 - 1)

-- at most ten digits, and at most 1000000000
abbrev pub pivots_in : Text → Option ℕ
pivots_in = number_in 10 0 1000000000

-- at most five digits, and at least 20
abbrev pub width_in : Text → Option ℕ
width_in = number_in 5 20 99999

-- ---- how much of a meter may be spent

-- with the byte at the front of the first part
abbrev pub with_front : ℕ → Text × Text → Text × Text
with_front byte parts = (byte ∷ parts.0, parts.1)

-- what stands before the first such byte of a word, and behind it
abbrev pub cut_at : ℕ → Text → Option (Text × Text)
cut_at mark [] = None
cut_at mark (byte ∷ word) = cond (nat_eq byte mark) (Some ([], word)) (option_map (with_front byte) (cut_at mark word))

abbrev pub meter_named : Text → Option Meter
meter_named word =
    cond (bytes_eq word (codes "ticks")) (Some Ticks)
    (cond (bytes_eq word (codes "cells")) (Some Cells) (cond (bytes_eq word (codes "work")) (Some Work) None))

abbrev pub within_of : Option Meter → Option ℕ → Option Within
within_of (Some meter) (Some most) = Some (record { meter = meter; most = most })
within_of meter most = None

-- a meter before the first `=`, and behind it a number of at most 39 digits that is at most 2 ^ 127
abbrev pub within_in : Text → Option Within
within_in word = option_and_then (λ parts. within_of (meter_named parts.0) (number_in 39 0 (2 ^ 127) parts.1)) (cut_at 61 word)
