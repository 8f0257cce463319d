-- What is found of programs that were tried can be told.
use Rattle.std.proofs.Common.{ℕ, List, Option, Some, None, IfSome}
use Rattle.raml_syntax.specs.Tree.{Text, Prog}
use Rattle.raml_syntax.specs.Read.{program_of}
use Rattle.rules_soundness_laws.specs.Laws.{normal_of}
use Rattle.explain_degrees.specs.declared.finding.Findings.{Findings}
use Rattle.explain_bounds.specs.Written.{FindingsCanBeTold}
use Rattle.explain_trials.specs.Read.{IsTrialOf}
use Rattle.explain_trials.specs.declared.trial.Trial.{Trial}
use Rattle.explain_reasons.specs.Reasons.{IsReason, IsExplained, group_in}
use Rattle.explain_reasons.specs.declared.reason.Explained.{Explained}
use Rattle.explain_reasons.specs.declared.reason.Reason.{Reason}
use Rattle.explain_reasons.specs.declared.reason.Reason.TheVariants as r
use Rattle.explain_supply.specs.Supply.{IsSupplied}
use Rattle.explain_supply.specs.declared.supplying.Supplied.{Supplied}
use Rattle.explain_why.specs.Why.{TrialCanBeTold, SupplyCanBeTold, ReasonCanBeTold}

trial_told : FindingsCanBeTold → (most : ℕ) (trial : Trial) → IsTrialOf most trial → TrialCanBeTold trial
trial_told can most trial is f g x there found =
    let finds = is.finds in
    let P = program_of trial.typed in
    can P (normal_of P finds.groups.list) most trial.found.functions.items f g x finds.least.functions there found

supply_told : FindingsCanBeTold → (source : Text) (P : Prog) (most : ℕ) (group : List ℕ) (supplied : Option Supplied) →
    IfSome supplied (IsSupplied source P most group) → SupplyCanBeTold supplied
supply_told can source P most group None is = tt
supply_told can source P most group (Some s) is = trial_told can most s.trial is.analysed

reason_told : FindingsCanBeTold → (source : Text) (P : Prog) (found : List Findings) (most : ℕ) (group : List ℕ) (reason : Reason) →
    IsReason source P found most group reason → ReasonCanBeTold reason
reason_told can source P found most group (r.Rebuild rebuilt) is = trial_told can most rebuilt.trial is.helps.mended.reduced.keeps.tried.analysed
reason_told can source P found most group (r.Inline inlined) is = trial_told can most inlined.trial is.helps.analysed
reason_told can source P found most group (r.Exchange exchanged) is = trial_told can most exchanged.trial is.analysed
reason_told can source P found most group (r.Waits callee stuck) is = tt
reason_told can source P found most group (r.Stuck calls supplied) is = supply_told can source P most group supplied is.1
reason_told can source P found most group (r.Twice pairs) is = tt
reason_told can source P found most group (r.Computed calls supplied) is = supply_told can source P most group supplied is.1
reason_told can source P found most group (r.DegreeTooLow callee degree) is = tt
reason_told can source P found most group (r.PaidTwice paid) is = tt
reason_told can source P found most group r.NotFound is = tt

pub explained_told : FindingsCanBeTold → (source : Text) (P : Prog) (found : List Findings) (most : ℕ) (e : Explained) → IsExplained source P found most e → ReasonCanBeTold e.reason
explained_told can source P found most e is = reason_told can source P found most (group_in e) e.reason is.reason
