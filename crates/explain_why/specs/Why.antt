-- What is told of a program: why functions have no bounds.
use Rattle.std.specs.Prelude.{◌≡◌, List, [], ◌∷◌, ◌++◌, map, Bool, true, false, cond, Option, Some, None, IfSome, codes, string_bytes}
use Rattle.raml_syntax.specs.Tree.{Text, Prog}
use Rattle.raml_syntax.specs.Read.{program_of}
use Rattle.explain_trials.specs.declared.trial.Trial.{Trial}
use Rattle.explain_lines.specs.Read.{lines_of}
use Rattle.explain_mending.specs.Mended.{findings_in}
use Rattle.explain_lines.specs.declared.bounds.Line.{Line}
use Rattle.explain_supply.specs.declared.supplying.Supplied.{Supplied}
use Rattle.explain_reasons.specs.Explanation.{note_in}
use Rattle.explain_reasons.specs.declared.reason.Explained.{Explained}
use Rattle.explain_reasons.specs.declared.reason.Reason.{Reason}
use Rattle.explain_reasons.specs.declared.reason.Reason.TheVariants as r
use Rattle.explain_reasons.specs.declared.program.Explanation.{Explanation}
use Rattle.explain_degrees.specs.declared.finding.Findings.{Findings}
use Rattle.explain_sentences.specs.Heads.{first_head, next_head}
use Rattle.explain_sentences.specs.Reasons.{of_reason, closing}
use Rattle.explain_why.specs.Shown.{AreShown}
use Rattle.explain_why.specs.Bounds.{AllCanBeToldOf, AreBoundLines}
use Rattle.explain_why.specs.Notes.{notes_text}
use Rattle.explain_why.specs.Chosen.{Asking, is_told, some_told, is_noted}

-- what was found of a program that was tried can be told
abbrev pub TrialCanBeTold : Trial → Type 0
TrialCanBeTold trial = AllCanBeToldOf (program_of trial.typed) (findings_in trial)

abbrev pub SupplyCanBeTold : Option Supplied → Type 0
SupplyCanBeTold supplied = IfSome supplied (λ s. TrialCanBeTold s.trial)

abbrev pub ReasonCanBeTold : Reason → Type 0
ReasonCanBeTold (r.Rebuild rebuilt) = TrialCanBeTold rebuilt.trial
ReasonCanBeTold (r.Inline inlined) = TrialCanBeTold inlined.trial
ReasonCanBeTold (r.Exchange exchanged) = TrialCanBeTold exchanged.trial
ReasonCanBeTold (r.Stuck calls supplied) = SupplyCanBeTold supplied
ReasonCanBeTold (r.Computed calls supplied) = SupplyCanBeTold supplied
ReasonCanBeTold _ = Unit {0}

-- The bounds of these lines in a program that was tried, behind a line that says what was changed.
pub record TrialIs (head : Text) (trial : Trial) (lines : List Line) (part : Text) : Type 0 where
  pub bounds : Text
  pub are : AreBoundLines (program_of trial.typed) (findings_in trial) (lines_of lines) bounds
  pub is : part ≡ head ++ bounds

abbrev pub rebuilt_head : Text
rebuilt_head =
    codes "Each such place makes at most one more cell when it runs, so bounds of cells may rise. With this there are these bounds:\n"

abbrev pub written_head : Text
written_head = codes "`--write OTHER.raml` leaves the source so. With this there are these bounds:\n"

abbrev pub supplied_head : Text → Text
supplied_head name =
    codes "If a list `" ++ (name ++ codes "` with an entry for each call came as one more parameter, there would be these bounds:\n")

abbrev pub SupplyIs : Option Supplied → Text → Type 0
SupplyIs None part = part ≡ []
SupplyIs (Some s) part = TrialIs (supplied_head (string_bytes s.name)) s.trial s.lines.items part

-- the bounds of what was tried for a reason
abbrev pub BoundsAre : Reason → Text → Type 0
BoundsAre (r.Rebuild rebuilt) part = TrialIs rebuilt_head rebuilt.trial rebuilt.lines.items part
BoundsAre (r.Inline inlined) part = TrialIs written_head inlined.trial inlined.lines.items part
BoundsAre (r.Exchange exchanged) part = TrialIs written_head exchanged.trial exchanged.lines.items part
BoundsAre (r.Stuck calls supplied) part = SupplyIs supplied part
BoundsAre (r.Computed calls supplied) part = SupplyIs supplied part
BoundsAre _ part = part ≡ []

-- the sentences of the reason of a group, each at its place, where analyses found this of all functions
abbrev pub IsReasonShown : Text → Text → Prog → List Findings → Explained → Text → Type 0
IsReasonShown name source P found e part =
    AreShown name source (first_head P found e.fun.0) (next_head P e.fun.0) (of_reason P e.fun.0 e.reason) part

-- of a group: these, what is said behind them, and the bounds of what was tried
pub record IsGroup (name source : Text) (P : Prog) (found : List Findings) (explained : Explained) (part : Text) : Type 0 where
  pub shown : Text
  pub bounds : Text
  pub sentences : IsReasonShown name source P found explained shown
  pub are : BoundsAre explained.reason bounds
  pub is : part ≡ shown ++ (closing explained.reason ++ bounds)

-- of a group that is told
abbrev pub IsGroupIf : Bool → Text → Text → Prog → List Findings → Explained → Text → Type 0
IsGroupIf true name source P found e part = IsGroup name source P found e part
IsGroupIf false name source P found e part = part ≡ []

-- of those of the groups that the test takes
abbrev pub AreGroups : (Explained → Bool) → Text → Text → Prog → List Findings → List Explained → Text → Type 0
AreGroups test name source P found [] part = part ≡ []
AreGroups test name source P found (e ∷ es) part =
    (first : Text) × (others : Text) × IsGroupIf (test e) name source P found e first × AreGroups test name source P found es others
    × (part ≡ first ++ others)

-- what 'no bound' means, where that is said of some group
abbrev pub meaning : Bool → Text
meaning false = codes "all functions that were asked about have their bounds\n"
meaning true =
    codes "That a bound is missing does not mean that the cost is unlimited. It is proved that the analysis has none of the degrees "
    ++ codes "that were tried, with what it found of called functions. The places above are likely causes, found by trying changes.\n"

-- the groups that are told of
abbrev pub told_of : Asking → Explanation → Explained → Bool
told_of asking x = is_told asking x.found.functions.items x.reasons.items

abbrev pub told_some : Asking → Explanation → Bool
told_some asking x = some_told asking x.found.functions.items x.reasons.items x.reasons.items

-- what is said of functions that have bounds, then why groups have none, and what that means
pub record IsWhy (name source : Text) (P : Prog) (asking : Asking) (explanation : Explanation) (part : Text) : Type 0 where
  pub groups : Text
  pub are : AreGroups (told_of asking explanation) name source P explanation.found.functions.items explanation.reasons.items groups
  pub is : part ≡ notes_text P (is_noted asking) (map note_in explanation.notes.items) ++ (groups ++ meaning (told_some asking explanation))

-- ---- the first change

abbrev pub change_of : Reason → Option Text
change_of (r.Rebuild rebuilt) = Some rebuilt.trial.text.items
change_of (r.Inline inlined) = Some inlined.trial.text.items
change_of (r.Exchange exchanged) = Some exchanged.trial.text.items
change_of _ = None

abbrev pub first_of : Option Text → Option Text → Option Text
first_of (Some change) later = Some change
first_of None later = later

-- the source that is changed so that the first of the groups gets its bounds, of those that the test takes
abbrev pub first_change : (Explained → Bool) → List Explained → Option Text
first_change test [] = None
first_change test (e ∷ es) = first_of (cond (test e) (change_of e.reason) None) (first_change test es)
