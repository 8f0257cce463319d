use Rattle.std.proofs.Common.{Option, subst}
use Rattle.raml_syntax.specs.Read.{program_of}
use Rattle.rules_plan.specs.Read.{program_in}
use Rattle.explain_runs.specs.Measure.{IsMeasure}
use Rattle.explain_runs.specs.declared.outcome.Limits.{Limits}
use Rattle.explain_runs.specs.declared.outcome.Measured.{Measured}
use Rattle.explain_marks.specs.Marks.{AreReadAs}
use Rattle.explain_marks.specs.declared.reading.Reading.{Reading}
use Rattle.explain_marks.proofs.Below.{run_given}
use Rattle.explain_marks.proofs.run.run_on.Goals as goal

pub returns-in-Some-2 : goal.returns-in-Some-2
returns-in-Some-2 c =
    let P = program_of c.args.typed.now in
    let N = program_in c.args.verified.now.program in
    let certificate = c.args.verified.now.certificate in
    let limits : Limits = record { steps = c.args.steps; cells = 16777216 } in
    let on = subst (λ (measured : Option Measured). IsMeasure P c.args.fun.0 c.args.data.now limits measured) c.in-Some-2.is c.in_ok-measured-in-Some.ensures in
    run_given c.ended.result P N certificate c.args.fun.0 c.args.meter c.args.place c.args.data.now limits c.in-Some-2.measured c.in-Some.read on
    (λ g args there spelled. subst (λ (read : Option Reading). AreReadAs P N certificate c.args.fun.0 c.args.meter c.args.place args read) c.in-Some.is (c.in_ok-read.ensures g args there spelled))
    c.ended.ensures.ended c.ended.ensures.cost c.ended.ensures.bound c.ended.ensures.size
