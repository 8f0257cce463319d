-- Small results, worked out by hand.
use Rattle.std.specs.Prelude.{◌≡◌, ℕ, List, [], ◌∷◌, codes, true, false, None, Some, Err}
use Rattle.serde_json.specs.Data.{Data}
use Rattle.lsp_positions.specs.declared.position.Encoding.TheVariants.{Utf16, Utf8}
use Rattle.lsp_language.specs.declared.span.Span.{Span}
use Rattle.lsp_results.specs.Places.{position_json, range_json, span_json}
use Rattle.lsp_language.specs.declared.names.Refusal.TheVariants.{InUse}
use Rattle.lsp_language.specs.declared.names.Renaming.TheVariants.{Refused}
use Rattle.lsp_requests.specs.declared.code.ErrorCode.TheVariants.{RequestFailed}
use Rattle.lsp_requests.specs.declared.code.Failure.TheVariants.{NameInUse}
use Rattle.lsp_results.specs.Hovers.{holds}
use Rattle.lsp_results.specs.Renames.{part_at, renaming_answer}

-- a face (4 bytes, 2 units of UTF-16), 'a', a newline, 'b'
abbrev text : List ℕ
text = 0xF0 ∷ 0x9F ∷ 0x98 ∷ 0x80 ∷ 0x61 ∷ 10 ∷ 0x62 ∷ []

abbrev part : ℕ → ℕ → Span
part start end = record { start = start; end = end }

abbrev place : ℕ → ℕ → Data
place line character = position_json (record { line = line; character = character })

pub record Examples : Type 0 where
  pub units : span_json Utf16 text (part 4 7) ≡ range_json (place 0 2) (place 1 1)
  pub bytes : span_json Utf8 text (part 4 5) ≡ range_json (place 0 4) (place 0 5)
  -- whose end is before its start
  pub backwards : span_json Utf8 text (part 5 4) ≡ range_json (place 0 5) (place 0 5)
  pub at_start : holds (part 4 7) 4 ≡ true
  pub at_end : holds (part 4 7) 7 ≡ false
  pub in_nothing : holds (part 4 4) 4 ≡ true
  pub stands_at_end : part_at 7 (part 0 4 ∷ part 4 7 ∷ []) ≡ Some (part 4 7)
  pub first_of_two : part_at 4 (part 0 4 ∷ part 4 7 ∷ []) ≡ Some (part 0 4)
  pub stands_nowhere : part_at 5 (part 0 4 ∷ []) ≡ None
  pub refused : renaming_answer Utf8 text (codes "u") (codes "b") (Refused InUse) ≡ Err (RequestFailed NameInUse)
