-- Texts that are changed.
use Rattle.std.specs.Prelude.{ℕ, cond, nat_le, List, [], ◌∷◌, ◌++◌, Option, None, Some, option_and_then, take, drop, map, string_bytes}
use Rattle.lsp_positions.specs.Positions.{offset_of}
use Rattle.lsp_positions.specs.declared.position.Encoding.{Encoding}
use Rattle.lsp_documents.specs.declared.change.Change.{Change}
use Rattle.lsp_documents.specs.declared.change.Range.{Range}

-- a text in which another stands in place of what stands between two places
abbrev pub replaced : List ℕ → ℕ → ℕ → List ℕ → List ℕ
replaced text start end new = (take start text ++ new) ++ drop end text

-- where the end is not before the start
abbrev pub replaced_between : List ℕ → ℕ → ℕ → List ℕ → Option (List ℕ)
replaced_between text start end new = cond (nat_le start end) (Some (replaced text start end new)) None

-- The text once a part of it is changed, and all of it where no range is told. A range whose end stands before its start changes nothing.
abbrev pub changed_in : Encoding → List ℕ → Option Range → List ℕ → Option (List ℕ)
changed_in encoding text None new = Some new
changed_in encoding text (Some range) new =
    replaced_between text (offset_of encoding text range.start) (offset_of encoding text range.end) new

-- a change: a range, or none, and the text that stands there then
pub record Replacement : Type 0 where
  pub range : Option Range
  pub text : List ℕ

abbrev pub changed : Encoding → List ℕ → Replacement → Option (List ℕ)
changed encoding text change = changed_in encoding text change.range change.text

-- the text once changes are made in their order, each of the text that the one before leaves
abbrev pub all_changed : Encoding → List ℕ → List Replacement → Option (List ℕ)
all_changed encoding text [] = Some text
all_changed encoding text (change ∷ changes) = option_and_then (λ next. all_changed encoding next changes) (changed encoding text change)

-- changes without where they lie in memory
abbrev pub replacement : Change → Replacement
replacement change = record { range = change.range; text = string_bytes change.text }

abbrev pub replacements : List Change → List Replacement
replacements = map replacement
