-- Changes that mend the first fault of a source.
use Rattle.std.specs.Prelude.{◌≡◌, ◌≤◌, ◌<◌, ◌⊎◌, ℕ, ◌+◌, ◌-◌, List, [], ◌∷◌, length, IfSome, string_bytes}
use Rattle.raml_syntax.specs.Tree.{Text}
use Rattle.lsp_language.specs.declared.insight.Action.{Action}
use Rattle.lsp_language.specs.declared.insight.Edit as lsp
use Rattle.explain_check.specs.Checks.{IsTypedSource}
use Rattle.explain_edits.specs.Edits.{Edit, with_edits}
use Rattle.explain_faults.specs.declared.fault.SourceFault.{SourceFault}
use Rattle.explain_faults.specs.Faults.{IsFirst, place, pass}

-- the edit, as it replaces so many bytes from one on
abbrev pub edit_in : lsp.Edit → Edit
edit_in edit = record { at = edit.span.start; length = edit.span.end - edit.span.start; text = string_bytes edit.text }

-- the source once the edit is made
abbrev pub changed : Text → Edit → Text
changed source edit = with_edits source (edit ∷ [])

-- where the words end that the edit puts in
abbrev pub behind : Edit → ℕ
behind edit = edit.at + length edit.text

-- A fault of the changed source comes later than the one before: the same pass finds it behind the words of the edit, or a later
-- pass, and not in these words.
abbrev pub ComesLater : Edit → SourceFault → SourceFault → Type 0
ComesLater edit before now =
    ((pass before ≡ pass now) × IfSome (place now) (λ at. behind edit ≤ at))
    ⊎ ((pass before < pass now) × IfSome (place now) (λ at. (at < edit.at) ⊎ (behind edit ≤ at)))

-- with the edit the source spells a typed program, or its first fault comes later
abbrev pub Mends : Text → SourceFault → Edit → Type 0
Mends source fault edit =
    IsTypedSource (changed source edit)
    ⊎ ((next : SourceFault) × IsFirst (changed source edit) next × ComesLater edit fault next)

-- the action has one edit, and that mends the fault
pub record IsRepair (source : Text) (fault : SourceFault) (action : Action) : Type 0 where
  pub edit : lsp.Edit
  pub one : action.edits.items ≡ edit ∷ []
  pub mends : Mends source fault (edit_in edit)
