use Rattle.std.proofs.Common.{◌≡◌, ◌≤◌, ◌<◌, ◌+◌, suc, length, sym, subst, ap, ◌∙◌, arith}
use Rattle.std.proofs.lemmas.List.{length-map}
use Rattle.std.proofs.lemmas.Option.{slice_get_within}
use Rattle.share_normal.specs.Program.{source_in}
use Rattle.annot_types.specs.Certificate.{has_work}
use Rattle.rules_plan.specs.Read.{program_in}
use Rattle.cert_check.specs.Checked.{Checking}
use Rattle.bound_file.specs.Read.{line_of}
use Rattle.contract_report.specs.Told.{VerdictsRefused}
use Rattle.contract_report.specs.Steps.{AllCanBeAsked, ToldBelow, ClearBelow, HasVerdictLine}
use Rattle.contract_report.proofs.Telling.{told_next, told_all, fault_on}
use Rattle.contract_report.proofs.verdicts.each_line.Goals as goal

pub loop-number-init : goal.loop-number-init
loop-number-init g c = record { same = c.new-decider.ensures; told = c.new-text.ensures.bytes; clear = λ pick answers k line low. absurd (omega (arith, low)) }

pub push_line-requires-clause-source : goal.push_line-requires-clause-source
push_line-requires-clause-source g c = c.requires.source ∙ ap (λ (K : Checking). source_in K.program) (sym c.loop-number.invariant.same)

pub push_line-requires-clause-work : goal.push_line-requires-clause-work
push_line-requires-clause-work g c = ap (λ (K : Checking). has_work K.certificate) c.loop-number.invariant.same ∙ c.requires.work

pub push_line-requires-clause-degree : goal.push_line-requires-clause-degree
push_line-requires-clause-degree g c = c.requires.degree ∙ ap (λ (K : Checking). K.certificate.degree) (sym c.loop-number.invariant.same)

pub push_line-requires-clause-asked : goal.push_line-requires-clause-asked
push_line-requires-clause-asked g c = subst (λ K. AllCanBeAsked K c.args.declared.now.lines) (sym c.loop-number.invariant.same) c.requires.asked

pub push_line-requires-clause-before : goal.push_line-requires-clause-before
push_line-requires-clause-before g c pick answers =
    subst (λ K. ClearBelow K c.args.declared.now.lines pick c.loop-number.number) (sym c.loop-number.invariant.same) (c.loop-number.invariant.clear pick answers)

pub returns-in_err-push_line-clause-fault : goal.returns-in_err-push_line-clause-fault
returns-in_err-push_line-clause-fault g c =
    fault_on c.from_residual.result c.in_err-push_line.field-0.0 _ c.from_residual.ensures.1
    (λ pick answers. subst (λ (K : Checking). VerdictsRefused (program_in K.program) K.certificate pick c.args.declared.now.lines c.in_err-push_line.field-0.0) c.loop-number.invariant.same
    (c.in_err-push_line.ensures.fault pick answers))

pub loop-number-preserved : goal.loop-number-preserved
loop-number-preserved g c =
    let lines = c.args.declared.now.lines in
    let same = c.loop-number.invariant.same in
    let one : suc c.loop-number.number ≡ c.loop-number.number + 1 = omega arith in
    record {
      same = c.in_ok-push_line.ensures.same ∙ same;
      told = subst (λ n. ToldBelow c.args.checked.now lines n c.push_line.new.text.bytes.items) one
          (told_next c.args.checked.now lines c.loop-number.number c.loop-number.text.bytes.items c.push_line.new.text.bytes.items c.loop-number.invariant.told
          (subst (λ K. HasVerdictLine K lines c.loop-number.number c.loop-number.text.bytes.items c.push_line.new.text.bytes.items) same c.in_ok-push_line.ensures.line));
      clear = λ pick answers. subst (λ n. ClearBelow c.args.checked.now lines pick n) one
          (subst (λ K. ClearBelow K lines pick (suc c.loop-number.number)) same (c.in_ok-push_line.ensures.clear pick answers));
    }

pub returns-clause-lines : goal.returns-clause-lines
returns-clause-lines g c =
    let lines = c.args.declared.now.lines in
    let long : length lines ≡ length c.lines-number-end.result.now = ap length (sym c.lines-number-end.ensures.lines) ∙ length-map c.lines-number-end.result.now line_of in
    told_all c.args.checked.now lines c.loop-number.number _ (omega (arith, long, c.loop-number-test.false)) c.loop-number.invariant.told

pub returns-clause-clear : goal.returns-clause-clear
returns-clause-clear g c pick answers k line there =
    let lines = c.args.declared.now.lines in
    let long : length lines ≡ length c.lines-number-end.result.now = ap length (sym c.lines-number-end.ensures.lines) ∙ length-map c.lines-number-end.result.now line_of in
    let low : k < length lines = slice_get_within lines k line there in
    c.loop-number.invariant.clear pick answers k line (omega (arith, long, low, c.loop-number-test.false)) there
