use Rattle.std.proofs.Common.{◌≡◌, ◌<◌, ◌∷◌, [], length, Some, IfSome, sym, subst}
use Rattle.std.specs.Prelude.{slice_get}
use Rattle.share_normal.specs.Program.{source_in}
use Rattle.rules_plan.specs.Read.{program_in}
use Rattle.annot_types.specs.Held.{lines_for}
use Rattle.annot_types.specs.Held as held
use Rattle.bound_file.specs.Lines.{Line}
use Rattle.bound_contract.specs.Asked.{BoundsWhereKept, ComesFirst, MayBeAsked, NoneComes}
use Rattle.bound_contract.specs.Asked as asked
use Rattle.bound_contract.specs.Read.{decided_of, place_of}
use Rattle.contract_report.specs.Verdicts.{Decides, VerdictHolds}
use Rattle.contract_report.specs.Told.{VerdictsRefused}
use Rattle.explain_budget.specs.Judging.{IsFoundOf}
use Rattle.contract_report.proofs.Telling.{there_is, line_there, of_place, clear_next, refused, decides, holds}
use Rattle.explain_budget.proofs.judging.judge_line.Goals as goal

pub decide-requires-clause-asked : goal.decide-requires-clause-asked
decide-requires-clause-asked g c line there = subst (λ K. MayBeAsked K line) (sym c.requires.same) (c.requires.asked c.args.number line there).asked

pub found-requires-clause-fun : goal.found-requires-clause-fun
found-requires-clause-fun g c =
    let at = there_is c.args.declared.now.lines c.args.number c.requires.there in
    let there = subst (λ ls. slice_get ls c.args.number ≡ Some at.0) (sym c.lines.ensures.lines) at.1 in
    let same = line_there c.lines.result.now c.args.number c.index-lines-number.result c.index-lines-number.is at.0 there in
    subst (λ (l : Line). l.fun < length (source_in c.args.verified.now.program)) (sym same) (c.requires.asked c.args.number at.0 at.1).asked.fun

pub returns-in-Ok-found-clause-judged : goal.returns-in-Ok-found-clause-judged
returns-in-Ok-found-clause-judged g c l there =
    let K = c.args.verified.now in
    let N = program_in K.program in
    let made = decided_of c.in-Ok.decision in
    let same = line_there c.lines.result.now c.args.number c.index-lines-number.result c.index-lines-number.is l (subst (λ ls. slice_get ls c.args.number ≡ Some l) (sym c.lines.ensures.lines) there) in
    let decided = subst (λ K. asked.Decides K l made) c.requires.same (c.in-Ok.ensures.decided l there) in
    let bounds = subst (λ K. BoundsWhereKept K l c.args.declared.now.degree made) c.requires.same (c.in-Ok.ensures.bounds l there) in
    let found = c.in-Ok-found.ensures in
    record {
      decides = subst (Decides N K.certificate l) (sym c.verdict_of.ensures) (decides K l made (c.requires.asked c.args.number l there) decided);
      holds = subst (VerdictHolds (source_in K.program) K.certificate.degree l) (sym c.verdict_of.ensures) (holds K l made (subst (λ d. BoundsWhereKept K l d made) c.requires.degree bounds));
      claim = found.0;
      claims = subst (λ (l : Line). lines_for N K.certificate l.fun l.meter ≡ held.line l.fun l.meter found.0 ∷ []) same found.1;
      found = found.2;
      over = subst (λ (l : Line). IfSome c.in-Ok-found.found (IsFoundOf (source_in K.program) l.fun)) same found.3;
    }

pub returns-in-Ok-found-clause-clear : goal.returns-in-Ok-found-clause-clear
returns-in-Ok-found-clause-clear g c pick answers =
    let lines = c.args.declared.now.lines in
    let at = there_is lines c.args.number c.requires.there in
    let none = subst (λ K. NoneComes K at.0 pick) c.requires.same (c.in-Ok.ensures.clear pick answers at.0 at.1) in
    clear_next c.args.verified.now lines pick c.args.number at.0 at.1 (c.requires.before pick answers) none

pub returns-clause-fault : goal.returns-clause-fault
returns-clause-fault g c pick answers =
    let K = c.args.verified.now in
    let lines = c.args.declared.now.lines in
    let at = there_is lines c.args.number c.requires.there in
    let comes = of_place (place_of c.in-Err.fault) _ _ (λ place first. subst (λ K. ComesFirst K at.0 pick place) c.requires.same (first at.0 at.1)) (c.in-Err.ensures.first pick answers) in
    subst (VerdictsRefused (program_in K.program) K.certificate pick lines) (sym c.line_fault.ensures)
    (refused K lines pick c.args.number at.0 at.1 (c.requires.before pick answers) (c.requires.asked c.args.number at.0 at.1) c.in-Err.fault comes)
