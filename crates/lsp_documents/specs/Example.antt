-- A small text, changed by hand.
use Rattle.std.specs.Prelude.{◌≡◌, ℕ, List, [], ◌∷◌, Option, None, Some, codes}
use Rattle.lsp_documents.specs.Changes.{changed_in}
use Rattle.lsp_documents.specs.declared.change.Range.{Range}
use Rattle.lsp_positions.specs.declared.position.Encoding.TheVariants.{Utf16, Utf8}

-- 'a', a face (4 bytes, 2 units of UTF-16), 'b', a return and a newline, 'c'
abbrev text : List ℕ
text = 0x61 ∷ 0xF0 ∷ 0x9F ∷ 0x98 ∷ 0x80 ∷ 0x62 ∷ 13 ∷ 10 ∷ 0x63 ∷ []

-- from a line and a column to another
abbrev part : ℕ → ℕ → ℕ → ℕ → Option Range
part a b c d = Some (record { start = record { line = a; character = b }; end = record { line = c; character = d } })

pub record Examples : Type 0 where
  pub whole : changed_in Utf16 text None (codes "x") ≡ Some (codes "x")
  -- the face, and its second half alone, which is nothing
  pub face : changed_in Utf16 text (part 0 1 0 3) (codes "x")
      ≡ Some (0x61 ∷ 0x78 ∷ 0x62 ∷ 13 ∷ 10 ∷ 0x63 ∷ [])
  pub half_face : changed_in Utf16 text (part 0 1 0 2) (codes "x")
      ≡ Some (0x61 ∷ 0x78 ∷ 0xF0 ∷ 0x9F ∷ 0x98 ∷ 0x80 ∷ 0x62 ∷ 13 ∷ 10 ∷ 0x63 ∷ [])
  -- from beyond a line to beyond the text: its ending and all behind it
  pub rest : changed_in Utf16 text (part 0 50 9 0) []
      ≡ Some (0x61 ∷ 0xF0 ∷ 0x9F ∷ 0x98 ∷ 0x80 ∷ 0x62 ∷ [])
  pub at_end : changed_in Utf8 text (part 9 0 9 0) (codes "x")
      ≡ Some (0x61 ∷ 0xF0 ∷ 0x9F ∷ 0x98 ∷ 0x80 ∷ 0x62 ∷ 13 ∷ 10 ∷ 0x63 ∷ 0x78 ∷ [])
  pub backwards : changed_in Utf16 text (part 1 0 0 0) (codes "x") ≡ None
