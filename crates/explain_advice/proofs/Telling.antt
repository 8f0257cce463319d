-- What is found of programs that were tried can be told.
use Rattle.std.proofs.Common.{ℕ, List, Some}
use Rattle.std.specs.List.{All}
use Rattle.std.proofs.lemmas.List.Elements.{All-weaker}
use Rattle.raml_syntax.specs.Tree.{Text, Prog}
use Rattle.raml_syntax.specs.Read.{program_of}
use Rattle.rules_soundness_laws.specs.Laws.{normal_of}
use Rattle.explain_degrees.specs.declared.finding.Findings.{Findings}
use Rattle.explain_bounds.specs.Written.{FindingsCanBeTold}
use Rattle.explain_trials.specs.Read.{IsTrialOf}
use Rattle.explain_trials.specs.declared.trial.Trial.{Trial}
use Rattle.explain_insight.specs.Read.{CanAllBeTold}
use Rattle.explain_mending.specs.Mended.{findings_in}
use Rattle.explain_reasons.specs.Explanation.{AreReasons}
use Rattle.explain_reasons.specs.Reasons.{IsReason, IsExplained, group_in}
use Rattle.explain_reasons.specs.declared.reason.Explained.{Explained}
use Rattle.explain_reasons.specs.declared.reason.Reason.{Reason}
use Rattle.explain_reasons.specs.declared.reason.Reason.TheVariants as r
use Rattle.explain_advice.specs.Changes.{CanBeTold, IsTellable, change_of}
use Rattle.std.specs.Prelude.{IfSome}

trial_told : FindingsCanBeTold → (most : ℕ) (trial : Trial) → IsTrialOf most trial → CanAllBeTold (program_of trial.typed) (findings_in trial)
trial_told can most trial is f g x there found =
    let finds = is.finds in
    let P = program_of trial.typed in
    can P (normal_of P finds.groups.list) most trial.found.functions.items f g x finds.least.functions there found

reason_told : FindingsCanBeTold → (source : Text) (P : Prog) (found : List Findings) (most : ℕ) (group : List ℕ) (reason : Reason) →
    IsReason source P found most group reason → IfSome (change_of reason) IsTellable
reason_told can source P found most group (r.Rebuild rebuilt) is = trial_told can most rebuilt.trial is.helps.mended.reduced.keeps.tried.analysed
reason_told can source P found most group (r.Inline inlined) is = trial_told can most inlined.trial is.helps.analysed
reason_told can source P found most group (r.Exchange exchanged) is = trial_told can most exchanged.trial is.analysed
reason_told can source P found most group (r.Waits callee stuck) is = tt
reason_told can source P found most group (r.Stuck calls supplied) is = tt
reason_told can source P found most group (r.Twice pairs) is = tt
reason_told can source P found most group (r.Computed calls supplied) is = tt
reason_told can source P found most group (r.DegreeTooLow callee degree) is = tt
reason_told can source P found most group (r.PaidTwice paid) is = tt
reason_told can source P found most group r.NotFound is = tt

explained_told : FindingsCanBeTold → (source : Text) (P : Prog) (found : List Findings) (most : ℕ) (e : Explained) → IsExplained source P found most e → CanBeTold e
explained_told can source P found most e is = reason_told can source P found most (group_in e) e.reason is.reason

pub reasons_told : FindingsCanBeTold → (source : Text) (P : Prog) (found : List Findings) (most : ℕ) (reasons : List Explained) →
    AreReasons source P found most reasons → All CanBeTold reasons
reasons_told can source P found most reasons are =
    All-weaker (IsExplained source P found most) CanBeTold (explained_told can source P found most) reasons are.explained
