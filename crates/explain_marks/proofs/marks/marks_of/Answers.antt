use Rattle.std.proofs.Common.{IfOk, sym, subst}
use Rattle.std.specs.List.{All}
use Rattle.raml_syntax.specs.Read.{program_of}
use Rattle.rules_plan.specs.Read.{program_in}
use Rattle.explain_chart.specs.Read.{mark_in}
use Rattle.explain_chart.specs.declared.mark.Mark.{Mark}
use Rattle.explain_marks.specs.Marks.{IsMarkOf, origin_of}
use Rattle.explain_marks.specs.declared.marks.Marks.{Marks}
use Rattle.explain_marks.specs.declared.marks.Runs.{Runs}
use Rattle.explain_marks.proofs.marks.marks_of.Goals as goal

pub returns-in-Made : goal.returns-in-Made
returns-in-Made c =
    let P = program_of c.args.typed.now in
    let N = program_in c.args.verified.now.program in
    let certificate = c.args.verified.now.certificate in
    subst (λ (runs : Runs). IfOk c.marks_made.result (λ (found : Marks). All (λ (m : Mark). IsMarkOf P N certificate c.args.fun.0 c.args.meter (origin_of runs) (mark_in m)) found.marks.items))
    (sym c.in-Made.is) c.marks_made.ensures

pub returns-in-Given : goal.returns-in-Given
returns-in-Given c =
    let P = program_of c.args.typed.now in
    let N = program_in c.args.verified.now.program in
    let certificate = c.args.verified.now.certificate in
    subst (λ (runs : Runs). IfOk c.marks_given.result (λ (found : Marks). All (λ (m : Mark). IsMarkOf P N certificate c.args.fun.0 c.args.meter (origin_of runs) (mark_in m)) found.marks.items))
    (sym c.in-Given.is) c.marks_given.ensures
