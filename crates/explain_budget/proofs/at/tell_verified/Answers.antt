use Rattle.std.proofs.Common.{[], refl, sym, ap, subst}
use Rattle.std.proofs.lemmas.List.{append-nil}
use Rattle.std.proofs.lemmas.Option.{slice_get_within}
use Rattle.raml_syntax.specs.Read.{program_of}
use Rattle.share_normal.specs.Program.{Kept, source_in}
use Rattle.rules_plan.specs.Read.{program_in}
use Rattle.refusals.specs.Refusals.{names_in}
use Rattle.explain_budget.specs.Degrees.{IsDecidedAt}
use Rattle.explain_budget.specs.Judging.{AreJudged}
use Rattle.explain_budget.specs.Read.{asking_in}
use Rattle.explain_budget.specs.Telling.{all_kept}
use Rattle.explain_budget.specs.Written.{CanBeTold}
use Rattle.explain_budget.proofs.Degrees.{decided}
use Rattle.explain_budget.proofs.Placed.{can_be_told, within_at}
use Rattle.explain_budget.proofs.at.tell_verified.Goals as goal

pub judge_lines-requires-clause-asked : goal.judge_lines-requires-clause-asked
judge_lines-requires-clause-asked c number line there =
    let P = source_in c.args.program.now in
    let D = c.args.declared.now in
    let named = within_at P D.degree D.lines number line c.requires.within there in
    c.may_be_judged.ensures.asked line (slice_get_within P line.fun named.0 named.1)

pub push_judged-requires : goal.push_judged-requires
push_judged-requires c =
    let P = source_in c.args.program.now in
    let N = program_in c.args.program.now in
    let D = c.args.declared.now in
    let cert = c.args.verified.now.certificate in
    let are = subst (λ (k : Kept). AreJudged (source_in k) (program_in k) cert D.lines c.in-Ok.judged.items) c.requires.program c.in-Ok.ensures.judged in
    let can = can_be_told P N cert c.args.degree c.args.asked.now.bytes.now D c.in-Ok.judged.items c.requires.most c.requires.spelled c.requires.within are in
    subst (λ P. CanBeTold P D c.deref.result.now) (sym (ap program_of c.source.ensures.source)) (subst (λ all. CanBeTold P D all) (sym c.deref.ensures.value) can)

pub returns-in_ok-push_judged-in-Ok : goal.returns-in_ok-push_judged-in-Ok
returns-in_ok-push_judged-in-Ok c =
    let P = source_in c.args.program.now in
    let N = program_in c.args.program.now in
    let D = c.args.declared.now in
    let cert = c.args.verified.now.certificate in
    let all = c.in-Ok.judged.items in
    let told = c.in_ok-push_judged-in-Ok.ensures in
    let is : IsDecidedAt P N (names_in c.args.program.now) (asking_in c.args.asked.now) c.args.degree (all_kept all) told.0 = record {
      declared = D;
      certificate = cert;
      analysed = record { spelled = c.requires.spelled; inferred = c.requires.inferred };
      judged = all;
      are = subst (λ (k : Kept). AreJudged (source_in k) (program_in k) cert D.lines all) c.requires.program c.in-Ok.ensures.judged;
      kept_is = refl;
      tells = rw (ap program_of c.source.ensures.source, c.deref.ensures.value, c.requires.spelled.degree) at told.1;
    } in
    (told.0, [], decided P N (names_in c.args.program.now) (asking_in c.args.asked.now) c.args.degree (all_kept all) c.end_of.result told.0 (rw c.deref-in-Ok.ensures.value at c.end_of.ensures) is, told.2, sym (append-nil _))
