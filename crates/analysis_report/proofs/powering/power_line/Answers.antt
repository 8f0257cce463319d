use Rattle.std.proofs.Common.{◌≡◌, Err, refl, ap, ◌∙◌, subst}
use Rattle.base_poly.specs.Poly.{den_of, terms_of}
use Rattle.base_poly.specs.Read.{context_of}
use Rattle.normal_spec.specs.Two.{norm}
use Rattle.share_normal.specs.Program.{Kept, source_in, norm_in, NormalForms}
use Rattle.rules_plan.specs.Read.{program_in}
use Rattle.cert_check.specs.Checked.{Checking}
use Rattle.bound_infer.specs.Told.{claim_of}
use Rattle.bound_infer.specs.declared.line.Line.{Line}
use Rattle.analysis_report.specs.Lines.{Claims}
use Rattle.analysis_report.proofs.Powered.{are_of_source, bound_leaves}
use Rattle.analysis_report.proofs.powering.power_line.Goals as goal

pub in_powers-requires-clause-tuples : goal.in_powers-requires-clause-tuples
in_powers-requires-clause-tuples c =
    let kept = c.args.verified.now.program in
    let N = program_in kept in
    let cert = c.args.verified.now.certificate in
    let same : c.program.result.now ≡ kept = c.program.ensures ∙ ap (λ (x : Checking). x.program) c.checked.ensures in
    are_of_source c.bounds_are_of_parameters.ensures (source_in kept) N (subst (λ (k : Kept). norm_in k ≡ norm (source_in k)) same c.functions-functions.ensures.norm)
    (subst (λ (k : Kept). NormalForms (source_in k)) same c.functions-functions.ensures.forms) cert c.certificate-certificate.ensures.valid.held
    c.args.fun.0 c.requires.fun (context_of c.args.types.now) c.requires.types c.args.meter (den_of c.in-Bound.poly) (terms_of c.in-Bound.poly)
    (subst (λ (told : Line). Claims N cert c.args.fun.0 c.args.meter (claim_of told)) c.in-Bound.is c.in_ok-poly.ensures.line)

pub returns-in-Err-Leaves-clause-leaves : goal.returns-in-Err-Leaves-clause-leaves
returns-in-Err-Leaves-clause-leaves c =
    let P = source_in c.args.verified.now.program in
    let N = program_in c.args.verified.now.program in
    let cert = c.args.verified.now.certificate in
    let why = c.in-Err-Leaves.ensures.leaves (ap Err c.in-Err-Leaves.field-0-is) in (
      refl,
      refl,
      bound_leaves P N cert c.args.fun.0 c.args.meter (context_of c.args.types.now) (den_of c.in-Bound.poly) (terms_of c.in-Bound.poly) c.requires.types c.requires.fun
          (subst (λ (told : Line). Claims N cert c.args.fun.0 c.args.meter (claim_of told)) c.in-Bound.is c.in_ok-poly.ensures.line) why.0 why.1,
    )
