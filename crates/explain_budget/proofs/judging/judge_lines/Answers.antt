use Rattle.std.proofs.Common.{rules, [], subst}
use Rattle.std.proofs.lemmas.Result.{IfErr-weaker}
use Rattle.call_groups.specs.Groups.{AreInOrder}
use Rattle.share_normal.specs.Program.{Kept, source_in}
use Rattle.rules_plan.specs.Read.{program_in}
use Rattle.simplex_checked.specs.Rules.{least_pick}
use Rattle.simplex_checked.proofs.Chosen.{answers_by}
use Rattle.explain_budget.proofs.judging.judge_lines.Goals as goal

pub each_line-requires-clause-one : goal.each_line-requires-clause-one
each_line-requires-clause-one c = record { pick = least_pick; answers = answers_by _ _ least_pick (λ gains o p. search rules) }

pub each_line-requires-clause-asked : goal.each_line-requires-clause-asked
each_line-requires-clause-asked c number line there =
    let K = c.args.verified.now in
    let asked = c.requires.asked number line there in
    let in_order = subst (λ (k : Kept). AreInOrder (source_in k) [] (program_in k).groups) c.program.ensures c.groups-groups.ensures.grouping.in_order in
    let same = c.checked-checked.ensures in
    let own = c.owns_are_there.ensures (source_in K.program) (program_in K.program) (rw same at in_order) K.certificate (rw same at c.certificate-certificate.ensures.held) c.requires.work line asked.fun in
    record { asked = asked; place = own.0; own = own.1; is = own.2 }

pub returns-clause-fault : goal.returns-clause-fault
returns-clause-fault c = IfErr-weaker c.each_line.result _ _ (λ fault first. first least_pick (answers_by _ _ least_pick (λ gains o p. search rules))) c.each_line.ensures.fault
