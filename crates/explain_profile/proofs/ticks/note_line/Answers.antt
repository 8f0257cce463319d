use Rattle.std.proofs.Common.{◌≡◌, ap, subst, ◌∙◌}
use Rattle.raml_syntax.specs.Tree.{Prog}
use Rattle.raml_syntax.specs.Types.{types_of}
use Rattle.cost_free.specs.declared.task.Meter.TheVariants.{Ticks}
use Rattle.annot_types.specs.Program.{Program}
use Rattle.normal_spec.specs.Two.{norm}
use Rattle.share_normal.specs.Program.{Kept, source_in, norm_in, NormalForms}
use Rattle.rules_plan.specs.Read.{program_in}
use Rattle.cert_check.specs.Checked.{Checking}
use Rattle.bound_infer.specs.Told.{claim_of}
use Rattle.analysis_report.proofs.Powered.{are_of_source}
use Rattle.explain_degrees.specs.Degrees.{TellsAt}
use Rattle.explain_profile.proofs.Degrees.{line_found, Over, same_types}
use Rattle.explain_profile.proofs.ticks.note_line.Goals as goal

pub returns : goal.returns
returns c =
    let kept = c.args.verified.now.program in
    let P : Prog = source_in kept in
    let N : Program = program_in kept in
    let cert = c.args.verified.now.certificate in
    let f = c.args.fun.0 in
    let same : c.program.result.now ≡ kept = c.program.ensures ∙ ap (λ (x : Checking). x.program) c.checked.ensures in
    let over : Over P N f cert = λ den terms claims g there. are_of_source c.bounds_are_of_parameters.ensures P N
    (subst (λ (k : Kept). norm_in k ≡ norm (source_in k)) same c.functions-functions.ensures.norm)
    (subst (λ (k : Kept). NormalForms (source_in k)) same c.functions-functions.ensures.forms) cert c.certificate-certificate.ensures.valid.held
    f c.requires.fun (types_of g) (same_types P f g there) Ticks den terms claims in
    let told : TellsAt N c.args.degree f Ticks (claim_of c.in_ok-line.field-0) = record { certificate = cert; inferred = c.requires.inferred; tells = c.in_ok-line.ensures.line } in
    rw c.found_at.ensures
    (line_found P N f c.args.degree c.args.found.now c.in_ok-line.field-0
    c.requires.degree c.requires.found c.requires.unbounded told c.in_ok-line.ensures.poly over)
