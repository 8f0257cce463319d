use Rattle.std.proofs.Common.{Some}
use Rattle.raml_syntax.specs.Read.{program_of}
use Rattle.explain_language.proofs.Telling.{within_count, within_told}
use Rattle.explain_language.proofs.source.typed_insight.Goals as goal

pub program_insight-requires-clause-told : goal.program_insight-requires-clause-told
program_insight-requires-clause-told c f g x there of_it =
    within_told (program_of c.args.typed.now) c.args.most (Some c.args.pivots) c.in_ok-found.field-0 c.in_ok-found.ensures
    c.findings_can_be_told.ensures f g x (rw c.program.ensures.program at there) (rw c.deref.ensures.value at of_it)

pub program_insight-requires-clause-count : goal.program_insight-requires-clause-count
program_insight-requires-clause-count c =
    rw (c.deref.ensures.value, c.program.ensures.program) (within_count (program_of c.args.typed.now) c.args.most (Some c.args.pivots)
    c.in_ok-found.field-0 c.in_ok-found.ensures)

pub tell_why-requires-clause-count : goal.tell_why-requires-clause-count
tell_why-requires-clause-count c =
    rw c.deref-2.ensures.value (within_count (program_of c.args.typed.now) c.args.most (Some c.args.pivots)
    c.in_ok-found.field-0 c.in_ok-found.ensures)

pub returns : goal.returns
returns c = record {
  program = program_of c.args.typed.now;
  spelled = c.requires.spelled;
  within = c.in_ok-found.field-0;
  finds = c.in_ok-found.ensures;
  bounds = c.in_ok-insight.insight;
  told = rw (c.program.ensures.program, c.deref.ensures.value) at c.in_ok-insight.ensures;
  why = rw c.deref-2.ensures.value at c.in_ok-tell_why.ensures;
}
