use Rattle.std.proofs.Common.{subst, sym}
use Rattle.share_normal.specs.Program.{source_in}
use Rattle.rules_plan.specs.Read.{program_in}
use Rattle.annot_types.specs.Program.{Program}
use Rattle.bound_infer.specs.Inferred.{InferCause}
use Rattle.explain_degrees.specs.Degrees.{RefusedAt, analysis_at}
use Rattle.explain_profile.proofs.Degrees.{refused_found}
use Rattle.explain_profile.proofs.ticks.note_degree.Goals as goal

pub returns-in_ok-refused-in-Err : goal.returns-in_ok-refused-in-Err
returns-in_ok-refused-in-Err c =
    let N : Program = program_in c.args.program.now in
    let told = c.in_ok-refused-in-Err.ensures in
    let at = c.in_ok-refused-in-Err.field-0 in
    let why : RefusedAt N c.args.degree at.fault = record { refused = told.refused; cause = subst (InferCause (analysis_at N c.args.degree)) (sym told.fault) c.in-Err.ensures.fault } in
    refused_found (source_in c.args.program.now) N c.args.fun.0 c.args.degree c.args.found.now c.requires.found (at.fault, why)
