-- A small text, worked out by hand.
use Rattle.std.specs.Prelude.{◌≡◌, ℕ, List, [], ◌∷◌}
use Rattle.lsp_positions.specs.Lines.{line_starts}
use Rattle.lsp_positions.specs.Positions.{position_of, offset_of}
use Rattle.lsp_positions.specs.declared.position.Encoding.TheVariants.{Utf16, Utf8}

-- 'a', a return and a newline; an 'e' with an acute accent (2 bytes), a face (4 bytes, 2 units of UTF-16) and
-- 'b', a return; 'c', a newline; and nothing
abbrev text : List ℕ
text = 0x61 ∷ 13 ∷ 10 ∷ 0xC3 ∷ 0xA9 ∷ 0xF0 ∷ 0x9F ∷ 0x98 ∷ 0x80 ∷ 0x62 ∷ 13 ∷ 0x63 ∷ 10 ∷ []

pub record Examples : Type 0 where
  pub starts : line_starts text ≡ 0 ∷ 3 ∷ 11 ∷ 13 ∷ []
  pub empty : line_starts [] ≡ 0 ∷ []
  pub first : position_of Utf16 text 0 ≡ record { line = 0; character = 0 }
  pub line_end : position_of Utf16 text 1 ≡ record { line = 0; character = 1 }
  -- within the ending
  pub in_ending : position_of Utf16 text 2 ≡ record { line = 0; character = 2 }
  pub accent : position_of Utf16 text 3 ≡ record { line = 1; character = 0 }
  pub face : position_of Utf16 text 5 ≡ record { line = 1; character = 1 }
  pub behind_face : position_of Utf16 text 9 ≡ record { line = 1; character = 3 }
  pub behind_face_in_bytes : position_of Utf8 text 9 ≡ record { line = 1; character = 6 }
  pub lone_return : position_of Utf16 text 11 ≡ record { line = 2; character = 0 }
  pub at_end : position_of Utf16 text 13 ≡ record { line = 3; character = 0 }
  pub past_end : position_of Utf16 text 100 ≡ record { line = 3; character = 0 }
  pub to_face : offset_of Utf16 text (record { line = 1; character = 1 }) ≡ 5
  -- within its surrogate pair
  pub in_face : offset_of Utf16 text (record { line = 1; character = 2 }) ≡ 5
  pub past_face : offset_of Utf16 text (record { line = 1; character = 3 }) ≡ 9
  pub in_face_in_bytes : offset_of Utf8 text (record { line = 1; character = 5 }) ≡ 5
  pub past_line : offset_of Utf16 text (record { line = 1; character = 100 }) ≡ 10
  pub past_first_line : offset_of Utf16 text (record { line = 0; character = 2 }) ≡ 1
  pub last_line : offset_of Utf16 text (record { line = 3; character = 7 }) ≡ 13
  pub past_lines : offset_of Utf16 text (record { line = 4; character = 0 }) ≡ 13
