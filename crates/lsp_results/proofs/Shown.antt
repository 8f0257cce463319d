-- What is shown at a place is answered.
use Rattle.std.proofs.Common.{◌≡◌, ℕ, List, Option, Result, Ok, Err, IfOk, subst}
use Rattle.std.specs.declared.alloc.AllocError.{AllocError}
use Rattle.serde_json.specs.View.{view}
use Rattle.serde_json.specs.declared.value.Value.{Value}
use Rattle.lsp_positions.specs.declared.position.Encoding.{Encoding}
use Rattle.lsp_language.specs.Telling.{Telling}
use Rattle.lsp_language.specs.declared.insight.Hover.{Hover}
use Rattle.lsp_results.specs.Hovers.{first_at, hover_or_null, IsShownAt, IsHoverAt}

pub shown_at : (tells : Telling) (encoding : Encoding) (text : List ℕ) (place : ℕ) (known : List Hover) (found hover : Option Hover) (r : Result Value AllocError) →
    found ≡ first_at place known → IsShownAt tells text place found hover → IfOk r (λ v. view v ≡ hover_or_null encoding text hover) →
    IfOk r (λ v. IsHoverAt tells encoding text place known (view v))
shown_at tells encoding text place known found hover (Ok v) is shown told =
    record { hover = hover; shown = subst (λ (found : Option Hover). IsShownAt tells text place found hover) is shown; is = told }
shown_at tells encoding text place known found hover (Err e) is shown told = told
