use Rattle.std.proofs.Common.{◌≡◌, ◌+◌, suc, length, sym, subst, ap, ◌∙◌, arith}
use Rattle.std.proofs.lemmas.List.{length-map}
use Rattle.bound_file.specs.Read.{line_of}
use Rattle.contract_report.specs.Steps.{ClearBelow}
use Rattle.explain_budget.specs.Steps.{JudgedBelow}
use Rattle.explain_budget.proofs.Decided.{judged_next, all_judged}
use Rattle.explain_budget.proofs.judging.each_line.Goals as goal

pub loop-number-init : goal.loop-number-init
loop-number-init g c = record {
  same = c.new-decider.ensures ∙ c.checked.ensures;
  judged = subst (JudgedBelow c.args.verified.now c.args.declared.now.lines 0) (sym c.new-all.ensures.items) tt;
  clear = λ pick answers k line low. absurd (omega (arith, low));
}

pub loop-number-preserved : goal.loop-number-preserved
loop-number-preserved g c =
    let lines = c.args.declared.now.lines in
    let K = c.args.verified.now in
    let n = c.loop-number.number in
    let one : suc n ≡ n + 1 = omega arith in
    let long : length lines ≡ length c.lines-number-end.result.now = ap length (sym c.lines-number-end.ensures.lines) ∙ length-map c.lines-number-end.result.now line_of in
    record {
      same = c.in_ok-judged.ensures.same;
      judged = subst (λ n. JudgedBelow K lines n c.push.new.self.items) one
          (judged_next K lines n c.loop-number.all.items c.push.new.self.items c.in_ok-judged.judged (omega (arith, long, c.loop-number-test.true)) c.in-Ok.ensures.items c.loop-number.invariant.judged c.in_ok-judged.ensures.judged);
      clear = λ pick answers. subst (λ n. ClearBelow K lines pick n) one (c.in_ok-judged.ensures.clear pick answers);
    }

pub returns-clause-judged : goal.returns-clause-judged
returns-clause-judged g c =
    let lines = c.args.declared.now.lines in
    let long : length lines ≡ length c.lines-number-end.result.now = ap length (sym c.lines-number-end.ensures.lines) ∙ length-map c.lines-number-end.result.now line_of in
    all_judged c.args.verified.now lines c.loop-number.number _ (omega (arith, long, c.loop-number-test.false)) c.loop-number.invariant.judged
