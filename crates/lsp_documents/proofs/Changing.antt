-- Changes that are made one after another.
use Rattle.std.proofs.Common.{◌≡◌, ap, sym, ◌∙◌, ℕ, ◌+◌, ◌<◌, ◌≤◌, List, ◌∷◌, length, drop, slice_index_or, Option, None, Some, option_and_then, Result, Ok, Err}
use Rattle.std.specs.Result.{IsErrAnd}
use Rattle.lsp_documents.specs.declared.change.ChangeFault.{ChangeFault}
use Rattle.std.proofs.lemmas.List.{drop_more, drop_all}
use Rattle.lsp_positions.specs.declared.position.Encoding.{Encoding}
use Rattle.lsp_documents.specs.Changes.{changed, all_changed, replacement, replacements}
use Rattle.lsp_documents.specs.declared.change.Change.{Change}

-- the rest of the changes, of which one is made
step : (encoding : Encoding) (changes : List Change) (i : ℕ) (item : Change) (text : List ℕ) → i < length changes → item ≡ slice_index_or changes i item →
    all_changed encoding text (replacements (drop i changes))
    ≡ option_and_then (λ next. all_changed encoding next (replacements (drop (i + 1) changes))) (changed encoding text (replacement item))
step encoding changes i item text within read =
    ap (λ (rest : List Change). all_changed encoding text (replacements rest))
    (drop_more changes i item within ∙ ap (λ (x : Change). x ∷ drop (i + 1) changes) (sym read))

-- the rest, once this is the text that a change leaves
abbrev after : Encoding → List Change → ℕ → Option (List ℕ) → Option (List ℕ)
after encoding changes i = option_and_then (λ next. all_changed encoding next (replacements (drop (i + 1) changes)))

pub changed_more : (encoding : Encoding) (changes : List Change) (i : ℕ) (item : Change) (text next : List ℕ) (whole : Option (List ℕ)) → i < length changes →
    item ≡ slice_index_or changes i item → changed encoding text (replacement item) ≡ Some next →
    all_changed encoding text (replacements (drop i changes)) ≡ whole → all_changed encoding next (replacements (drop (i + 1) changes)) ≡ whole
changed_more encoding changes i item text next whole within read e so_far =
    sym (step encoding changes i item text within read ∙ ap (after encoding changes i) e) ∙ so_far

pub changed_no_more : (encoding : Encoding) (changes : List Change) (i : ℕ) (item : Change) (text : List ℕ) (whole : Option (List ℕ)) → i < length changes →
    item ≡ slice_index_or changes i item → changed encoding text (replacement item) ≡ None →
    all_changed encoding text (replacements (drop i changes)) ≡ whole → whole ≡ None
changed_no_more encoding changes i item text whole within read e so_far =
    sym so_far ∙ step encoding changes i item text within read ∙ ap (after encoding changes i) e

pub all_made : (encoding : Encoding) (changes : List Change) (i : ℕ) (text : List ℕ) (whole : Option (List ℕ)) → length changes ≤ i →
    all_changed encoding text (replacements (drop i changes)) ≡ whole → whole ≡ Some text
all_made encoding changes i text whole all so_far =
    sym so_far ∙ ap (λ (rest : List Change). all_changed encoding text (replacements rest)) (drop_all i changes all)

-- the error of an answer
pub of_error : {T : Type 0} (r : Result T ChangeFault) (e f : ChangeFault) → IsErrAnd r (λ x. x ≡ e) → r ≡ Err f → e ≡ f
of_error (Ok u) e f h g = absurd (cc)
of_error (Err x) e f h g = sym h ∙ (let same : x ≡ f = cc in same)
