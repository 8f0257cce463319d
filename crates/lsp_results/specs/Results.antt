-- The results of requests on a text.
use Rattle.std.specs.Prelude.{◌≡◌, List, ℕ}
use Rattle.serde_json.specs.Data.{Data}
use Rattle.lsp_positions.specs.Positions.{offset_of}
use Rattle.lsp_positions.specs.declared.position.Encoding.{Encoding}
use Rattle.lsp_language.specs.Telling.{Telling}
use Rattle.lsp_language.specs.declared.insight.Insight.{Insight}
use Rattle.lsp_params.specs.declared.asking.Ask.{Ask}
use Rattle.lsp_params.specs.declared.asking.Ask.TheVariants.{Hover, Lenses, Hints, Actions, Names}
use Rattle.lsp_results.specs.Hovers.{IsHoverAt}
use Rattle.lsp_results.specs.Marks.{lenses_json, hints_json}
use Rattle.lsp_results.specs.Actions.{actions_json}
use Rattle.lsp_results.specs.Names.{IsOfNames}

-- What is answered where this is asked of a document: by its text and what is known of it, and by what its language tells at a place where
-- that has no hover, or of its names.
abbrev pub IsResult : Telling → Encoding → List ℕ → List ℕ → Insight → Ask → Data → Type 0
IsResult tells encoding text uri insight (Hover position) answer =
    IsHoverAt tells encoding text (offset_of encoding text position) insight.hovers.items answer
IsResult tells encoding text uri insight Lenses answer = answer ≡ lenses_json encoding text insight.lenses.items
IsResult tells encoding text uri insight (Hints range) answer =
    answer ≡ hints_json encoding text (offset_of encoding text range.start) (offset_of encoding text range.end) insight.hints.items
IsResult tells encoding text uri insight (Actions range) answer =
    answer ≡ actions_json encoding text uri (offset_of encoding text range.start) (offset_of encoding text range.end) insight.actions.items
IsResult tells encoding text uri insight (Names asked) answer = IsOfNames tells encoding text uri asked answer
