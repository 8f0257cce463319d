use Rattle.std.proofs.Common.{◌++◌, ◌∙◌, [], None, sym, ap, subst, arith, string_bytes}
use Rattle.std.proofs.lemmas.List.{append-nil, append_assoc}
use Rattle.share_normal.specs.Program.{source_in}
use Rattle.rules_plan.specs.Read.{program_in}
use Rattle.refusals.specs.Refusals.{names_in}
use Rattle.explain_budget.specs.Degrees.{TellsAt, lower}
use Rattle.explain_budget.specs.Read.{asking_in}
use Rattle.explain_budget.proofs.Degrees.{one_more, ends, all_refused, three_appended}
use Rattle.explain_budget.proofs.at.tell_from.Goals as goal

pub returns-in-Some : goal.returns-in-Some
returns-in-Some c =
    let kept = c.args.program.now in
    let loop = c.loop-left in
    let before = loop.invariant.told in
    let told = c.in_ok-end.ensures in
    let own = told.1 in
    let low = lower c.args.first loop.degree c.in-Some.end in (
      told.0,
      before.0 ++ (own ++ low),
      ends (source_in kept) (program_in kept) (names_in kept) (asking_in c.args.asked.now) c.args.first c.args.tries loop.left loop.degree before.0 own c.in-Some.end told.0 c.loop-left-test.true
          (rw c.in-Some.is at told.2) before.1,
      told.3 ∙ ap (λ text. text ++ told.0) loop.invariant.text,
      three_appended (string_bytes c.push_lower.new.report) (string_bytes c.tell_at.new.report) (string_bytes loop.report) (string_bytes c.args.report.now) before.0 own low c.in_ok-push_lower.ensures told.4 before.2,
    )

pub loop-left-preserved : goal.loop-left-preserved
loop-left-preserved c =
    let kept = c.args.program.now in
    let asking = asking_in c.args.asked.now in
    let loop = c.loop-left in
    let before = loop.invariant.told in
    let told = c.in_ok-end.ensures in
    let own = told.1 in
    let at = rw c.in_default.is at told.2 in
    let none = subst (λ shown. TellsAt (source_in kept) (program_in kept) (names_in kept) asking loop.degree None shown own) at.0 at in
    record {
      left = omega (arith, loop.invariant.left);
      most = omega (arith, loop.invariant.most);
      text = told.3 ∙ ap (λ shown. string_bytes loop.text ++ shown) at.0 ∙ append-nil (string_bytes loop.text) ∙ loop.invariant.text;
      told = (
        before.0 ++ own,
        one_more (source_in kept) (program_in kept) (names_in kept) asking c.args.first c.args.tries loop.left loop.degree before.0 own c.loop-left-test.true none before.1,
        told.4 ∙ ap (λ text. text ++ own) before.2 ∙ append_assoc (string_bytes c.args.report.now) before.0 own,
      );
    }

pub returns : goal.returns
returns c =
    let kept = c.args.program.now in
    let loop = c.loop-left in
    let before = loop.invariant.told in
    let all = all_refused (source_in kept) (program_in kept) (names_in kept) (asking_in c.args.asked.now) c.args.first c.args.tries loop.left loop.degree before.0 (omega (arith, c.loop-left-test.false)) before.1 in
    ([], before.0, all, loop.invariant.text ∙ sym (append-nil (string_bytes c.args.text.now)), before.2)
