-- Rows that are counted, one after the other.
use Rattle.std.proofs.Common.{◌≡◌, ◌<◌, ◌+◌, ◌∙◌, ◌++◌, ◌∷◌, [], ℕ, List, ap, sym, drop, length, slice_index_or}
use Rattle.std.proofs.lemmas.List.{append_assoc, drop_more, map-append}
use Rattle.std.specs.List.{All}
use Rattle.std.proofs.lemmas.List.Elements.{All-push, All-same}
use Rattle.explain_regions.specs.declared.line.Line.{Line}
use Rattle.explain_regions.specs.Read.{plain_line, plain_lines}
use Rattle.explain_profile.specs.Runs.{Case}
use Rattle.explain_profile.specs.Rows.{line_of, all_lines, IsCounted}
use Rattle.explain_profile.specs.declared.rows.Row.{Row}

pub one_more : (case : Case) (lines : List Line) (i : ℕ) (d : Line) (rows new : List Row) (row : Row) → i < length lines → new ≡ rows ++ row ∷ [] →
    row.line ≡ slice_index_or lines i d → all_lines rows ++ plain_lines (drop i lines) ≡ plain_lines lines → All (IsCounted case) rows → IsCounted case row →
    (all_lines new ++ plain_lines (drop (i + 1) lines) ≡ plain_lines lines) × All (IsCounted case) new
one_more case lines i d rows new row within pushed same so_far counted one =
    let rest = plain_lines (drop (i + 1) lines) in
    let first = ap (λ (l : Line). plain_line l ∷ rest) same ∙ sym (ap plain_lines (drop_more lines i d within)) in (
      ap (λ (rs : List Row). all_lines rs ++ rest) pushed ∙ ap (λ ls. ls ++ rest) (map-append line_of rows (row ∷ []))
          ∙ append_assoc (all_lines rows) (line_of row ∷ []) rest ∙ ap (λ ls. all_lines rows ++ ls) first ∙ so_far,
      All-same (IsCounted case) new (rows ++ row ∷ []) pushed (All-push (IsCounted case) rows row counted one),
    )
