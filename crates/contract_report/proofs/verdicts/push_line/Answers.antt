use Rattle.std.proofs.Common.{◌≡◌, ◌++◌, Some, sym, subst, ◌∙◌, string_bytes}
use Rattle.std.specs.Prelude.{slice_get}
use Rattle.std.proofs.lemmas.Result.{on_ok_weaker}
use Rattle.rules_plan.specs.Read.{program_in}
use Rattle.bound_contract.specs.Asked.{BoundsWhereKept}
use Rattle.bound_contract.specs.Read.{decided_of, place_of}
use Rattle.contract_report.specs.Verdicts.{verdict_line}
use Rattle.contract_report.specs.Told.{VerdictsRefused}
use Rattle.contract_report.specs.Steps.{verdict_of}
use Rattle.contract_report.proofs.Telling.{there_is, line_there, of_place, clear_next, refused, decides, holds}
use Rattle.contract_report.proofs.verdicts.push_line.Goals as goal

pub decide-requires-clause-asked : goal.decide-requires-clause-asked
decide-requires-clause-asked g c line there = (c.requires.asked c.args.number line there).asked

pub returns-in-Ok-clause-line : goal.returns-in-Ok-clause-line
returns-in-Ok-clause-line g c =
    let K = c.args.decider.now in
    let lines = c.args.declared.now.lines in
    let at = there_is lines c.args.number c.requires.there in
    let made = decided_of c.in-Ok.decision in
    let same = line_there c.lines.result.now c.args.number c.index-lines-number.result c.index-lines-number.is at.0 (subst (λ ls. slice_get ls c.args.number ≡ Some at.0) (sym c.lines.ensures.lines) at.1) in
    on_ok_weaker c.push_verdict.result
    (λ text. record {
      line = at.0;
      there = at.1;
      verdict = verdict_of made;
      decides = decides K at.0 made (c.requires.asked c.args.number at.0 at.1) (c.in-Ok.ensures.decided at.0 at.1);
      holds = holds K at.0 made (subst (λ d. BoundsWhereKept K at.0 d made) c.requires.degree (c.in-Ok.ensures.bounds at.0 at.1));
      is = text ∙ (λ i. string_bytes c.args.text.now ++ verdict_line (c.requires.source i) (same i) (verdict_of made));
    })
    c.push_verdict.ensures.text

pub returns-in-Ok-clause-clear : goal.returns-in-Ok-clause-clear
returns-in-Ok-clause-clear g c =
    let lines = c.args.declared.now.lines in
    let at = there_is lines c.args.number c.requires.there in
    on_ok_weaker c.push_verdict.result
    (λ text pick answers. clear_next c.args.decider.now lines pick c.args.number at.0 at.1 (c.requires.before pick answers) (c.in-Ok.ensures.clear pick answers at.0 at.1))
    c.push_verdict.ensures.text

pub returns-in-Err-clause-fault : goal.returns-in-Err-clause-fault
returns-in-Err-clause-fault g c pick answers =
    let K = c.args.decider.now in
    let lines = c.args.declared.now.lines in
    let at = there_is lines c.args.number c.requires.there in
    let comes = of_place (place_of c.in-Err.fault) _ _ (λ place first. first at.0 at.1) (c.in-Err.ensures.first pick answers) in
    subst (VerdictsRefused (program_in K.program) K.certificate pick lines) (sym c.line_fault.ensures)
    (refused K lines pick c.args.number at.0 at.1 (c.requires.before pick answers) (c.requires.asked c.args.number at.0 at.1) c.in-Err.fault comes)
