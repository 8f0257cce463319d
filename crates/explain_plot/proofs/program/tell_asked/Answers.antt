use Rattle.std.proofs.Common.{◌≡◌, ◌∙◌, Some, ap, sym, subst, string_bytes}
use Rattle.std.specs.Prelude.{slice_get}
use Rattle.raml_syntax.specs.Read.{program_of}
use Rattle.raml_syntax.specs.declared.program.Program.{Program}
use Rattle.share_normal.specs.Program.{source_in}
use Rattle.rules_plan.specs.Read.{program_in}
use Rattle.explain_marks.specs.Marks.{origin_of}
use Rattle.explain_plot.specs.Calls.{degree_of}
use Rattle.explain_plot.proofs.Found.{degree_within, findings_there, least_degree, of_degree}
use Rattle.explain_plot.proofs.program.tell_asked.Goals as goal

pub tell_degree-requires-clause-least : goal.tell_degree-requires-clause-least
tell_degree-requires-clause-least c = rw c.degree_of-degree.ensures (least_degree c.of.result.now)

pub tell_degree-requires-clause-most : goal.tell_degree-requires-clause-most
tell_degree-requires-clause-most c =
    let kept = c.in_ok-program.program in
    let made = c.in_ok-program.ensures in
    let found = c.in_ok-functions.field-0 in
    let f = c.args.asked.fun.0 in
    let there = findings_there kept c.args.typed.now made.source made.groups made.normal c.args.asked.most found c.in_ok-functions.ensures f c.index-findings.result.now c.requires.fun c.index-findings.ensures in
    rw (c.degree_of-degree.ensures, c.of.ensures)
    (degree_within kept c.args.typed.now made.source made.groups made.normal c.args.asked.most found c.in_ok-functions.ensures f c.args.asked.meter c.index-findings.result.now there c.requires.range.1)

pub tell_degree-requires-clause-findings : goal.tell_degree-requires-clause-findings
tell_degree-requires-clause-findings c g there =
    let kept = c.in_ok-program.program in
    let made = c.in_ok-program.ensures in
    let found = c.in_ok-functions.field-0 in
    let f = c.args.asked.fun.0 in
    let at = findings_there kept c.args.typed.now made.source made.groups made.normal c.args.asked.most found c.in_ok-functions.ensures f c.index-findings.result.now c.requires.fun c.index-findings.ensures in
    c.findings_can_be_told.ensures (source_in kept) (program_in kept) c.args.asked.most found.functions.items f g c.index-findings.result.now c.in_ok-functions.ensures.functions
    (subst (λ (s : Program). slice_get (program_of s) f ≡ Some g) (sym made.source) there) at

pub returns : goal.returns
returns c =
    let kept = c.in_ok-program.program in
    let made = c.in_ok-program.ensures in
    let found = c.in_ok-functions.field-0 in
    let f = c.args.asked.fun.0 in
    let there = findings_there kept c.args.typed.now made.source made.groups made.normal c.args.asked.most found c.in_ok-functions.ensures f c.index-findings.result.now c.requires.fun c.index-findings.ensures in
    of_degree kept c.args.typed.now made.source made.groups made.normal c.args.asked.most found c.in_ok-functions.ensures f c.args.asked.meter (origin_of c.args.runs.now) c.index-findings.result.now
    c.degree_of-degree.result (string_bytes c.args.text.now) (string_bytes c.tell_degree.new.text) (string_bytes c.args.report.now) (string_bytes c.push_notes.new.report)
    (string_bytes c.tell_degree.new.report) c.tell_degree.result there (c.degree_of-degree.ensures ∙ ap degree_of c.of.ensures) c.in_ok-push_notes.ensures c.tell_degree.ensures
