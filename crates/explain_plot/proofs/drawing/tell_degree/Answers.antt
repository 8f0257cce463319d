use Rattle.std.proofs.Common.{refl, ap, subst, string_bytes}
use Rattle.raml_syntax.specs.Read.{program_of}
use Rattle.rules_plan.specs.Read.{program_in}
use Rattle.annot_types.specs.Program.{Program}
use Rattle.explain_marks.specs.Marks.{origin_of}
use Rattle.explain_plot.specs.Calls.{Drawn}
use Rattle.explain_plot.proofs.Found.{refused_at}
use Rattle.explain_plot.proofs.drawing.tell_degree.Goals as goal

pub returns-in_ok-picture-in-Ok : goal.returns-in_ok-picture-in-Ok
returns-in_ok-picture-in-Ok c =
    let made = c.in_ok-picture-in-Ok.ensures in
    let svg = string_bytes c.in_ok-picture-in-Ok.picture in
    let certificate = c.in-Ok.verified.certificate in
    let drawn = subst (λ (N : Program). Drawn (program_of c.args.typed.now) N certificate c.args.asked.fun.0 c.args.asked.meter (origin_of c.args.runs.now) svg made.0 made.1) (ap program_in c.in-Ok.ensures.program) made.2 in
    (made.0, made.1, record { certificate = certificate; inferred = c.in-Ok.ensures.course; svg = svg; is = refl; drawn = drawn }, made.3, made.4)

pub returns-in-Err : goal.returns-in-Err
returns-in-Err c =
    refused_at c.undrawn.result c.in-Err.fault (program_of c.args.typed.now) (program_in c.args.program.now) c.args.asked.fun.0 c.args.degree c.args.asked.meter (origin_of c.args.runs.now) _ _ _ _
    c.in-Err.ensures.fault refl refl c.undrawn.ensures.told c.undrawn.ensures.none c.undrawn.ensures.refused
