-- Changes by which groups of functions get their bounds, as an editor offers them.
use Rattle.std.specs.Prelude.{◌≡◌, ◌⊎◌, ℕ, Option, Some, None, IfSome, List, [], ◌∷◌, ◌++◌, option_map, slice_get, codes, string_bytes}
use Rattle.raml_syntax.specs.Tree.{Text, Function, Prog}
use Rattle.raml_syntax.specs.Read.{program_of}
use Rattle.lsp_language.specs.declared.insight.Action.{Action}
use Rattle.lsp_language.specs.declared.insight.Edit as lsp
use Rattle.report_text.specs.Names.{name_at}
use Rattle.explain_degrees.specs.declared.finding.Findings.{Findings}
use Rattle.explain_trials.specs.declared.trial.Trial.{Trial}
use Rattle.explain_mending.specs.Mended.{findings_in}
use Rattle.explain_inline.specs.declared.how.How.{How}
use Rattle.explain_inline.specs.declared.how.How.TheVariants.{Inlined, Unfolded}
use Rattle.explain_faults.specs.Repairs.{changed, edit_in}
use Rattle.explain_insight.specs.Brief.{IsBrief}
use Rattle.explain_insight.specs.Read.{CanAllBeTold}
use Rattle.explain_reasons.specs.declared.reason.Explained.{Explained}
use Rattle.explain_reasons.specs.declared.reason.Reason.{Reason}
use Rattle.explain_reasons.specs.declared.reason.Reason.TheVariants as r
use Rattle.explain_sentences.specs.Reasons.{of_reason}
use Rattle.explain_sentences.specs.Sentences.{Sentence}
use Rattle.explain_advice.specs.declared.change.Change as The

-- a change: what is done, and the program that was tried with it
pub record Change : Type 0 where
  pub name : Text
  pub trial : Trial

abbrev pub change : Text → Trial → Change
change name trial = record { name = name; trial = trial }

abbrev pub name_of : How → Text
name_of Inlined = codes "write calls out"
name_of Unfolded = codes "unfold calls"

-- the change that gives a group its bounds, where the reason has one
abbrev pub change_of : Reason → Option Change
change_of (r.Rebuild rebuilt) = Some (change (codes "build values again") rebuilt.trial)
change_of (r.Inline inlined) = Some (change (name_of inlined.how) inlined.trial)
change_of (r.Exchange exchanged) = Some (change (codes "exchange two parameters") exchanged.trial)
change_of _ = None

abbrev pub IsTellable : Change → Type 0
IsTellable c = CanAllBeTold (program_of c.trial.typed) (findings_in c.trial)

-- what was found of the changed program can be told
abbrev pub CanBeTold : Explained → Type 0
CanBeTold e = IfSome (change_of e.reason) IsTellable

-- what is done, and which bounds this function has then
pub record IsTitle (c : Change) (f : ℕ) (title : Text) : Type 0 where
  pub function : Function
  pub is_there : slice_get (program_of c.trial.typed) f ≡ Some function
  pub findings : Findings
  pub are_found : slice_get (findings_in c.trial) f ≡ Some findings
  pub bounds : Text
  pub tells : IsBrief function findings bounds
  pub is : title ≡ c.name ++ (codes ": `" ++ (name_at (program_of c.trial.typed) f ++ (codes "` " ++ bounds)))

-- the action makes the text that was tried of the source, in one edit, and tells the bounds of this function in it
pub record IsChange (source : Text) (c : Change) (f at : ℕ) (action : Action) : Type 0 where
  pub edit : lsp.Edit
  pub one : action.edits.items ≡ edit ∷ []
  pub gives : changed source (edit_in edit) ≡ c.trial.text.items
  pub title : IsTitle c f (string_bytes action.title)
  pub place : action.span.start ≡ at

-- of a change none or one action
abbrev pub IsOffered : Text → Option Change → ℕ → ℕ → List Action → Type 0
IsOffered source None f at actions = actions ≡ []
IsOffered source (Some c) f at actions = (actions ≡ []) ⊎ ((action : Action) × (actions ≡ action ∷ []) × IsChange source c f at action)

-- where the first of these sentences stands
abbrev pub first_place : List Sentence → ℕ
first_place [] = 0
first_place (s ∷ others) = s.at

-- of each group the one that its reason has, at the first place that is told of the group
abbrev pub AreOffered : Text → Prog → List Explained → List Action → Type 0
AreOffered source P [] actions = actions ≡ []
AreOffered source P (e ∷ es) actions =
    (first : List Action) × (others : List Action)
    × IsOffered source (change_of e.reason) e.fun.0 (first_place (of_reason P e.fun.0 e.reason)) first
    × AreOffered source P es others × (actions ≡ first ++ others)

-- ---- what the code has, as plain data

abbrev pub change_in : Option The.Change → Option Change
change_in = option_map (λ (c : The.Change). change c.name.now c.trial.now)
