-- Small texts, worked out by hand.
use Rattle.std.specs.Prelude.{◌≡◌, ℕ, List, [], ◌∷◌}
use Rattle.explain_places.specs.Places.{line, column, line_start, line_text}

-- 'ab', a newline, an 'e' with an acute accent in two bytes, 'f', and a newline
abbrev text : List ℕ
text = 0x61 ∷ 0x62 ∷ 0x0A ∷ 0xC3 ∷ 0xA9 ∷ 0x66 ∷ 0x0A ∷ []

pub record Examples : Type 0 where
  pub first_line : line text 0 ≡ 1
  pub first_column : column text 0 ≡ 1
  -- a newline stands at the end of the line that it ends
  pub newline_line : line text 2 ≡ 1
  pub newline_column : column text 2 ≡ 3
  pub newline_text : line_text text 2 ≡ 0x61 ∷ 0x62 ∷ []
  pub next_line : line text 3 ≡ 2
  pub next_column : column text 3 ≡ 1
  pub next_start : line_start text 5 ≡ 3
  -- behind the two bytes of one character
  pub behind_character : column text 5 ≡ 2
  pub next_text : line_text text 5 ≡ 0xC3 ∷ 0xA9 ∷ 0x66 ∷ []
  -- the end of a text that ends in a newline stands on a line of its own
  pub end_line : line text 7 ≡ 3
  pub end_column : column text 7 ≡ 1
  pub end_text : line_text text 7 ≡ []
  pub past_line : line text 100 ≡ 3
  pub past_start : line_start text 100 ≡ 7
  pub past_text : line_text text 100 ≡ []
