use Rattle.std.proofs.Common.{◌≤◌, subst, arith}
use Rattle.base_poly.specs.Plain.{degrees}
use Rattle.base_poly.specs.Poly.{magnitudes}
use Rattle.rules_plan.specs.Read.{program_in}
use Rattle.bound_infer.specs.Told.{claim_of}
use Rattle.bound_infer.specs.declared.line.Line.{Line}
use Rattle.analysis_report.specs.Lines.{Claims}
use Rattle.analysis_report.proofs.Tuples.{of_terms, bounds_are_of_parameters}
use Rattle.analysis_report.proofs.bounds.floor_at.Goals as goal

pub at-requires-clause-low : goal.at-requires-clause-low
at-requires-clause-low c =
    let N = program_in c.args.verified.now.program in
    let cert = c.args.verified.now.certificate in
    let held = c.certificate-certificate.ensures.valid.held in
    let terms = c.in-Bound.poly.terms.items in
    let tuples = bounds_are_of_parameters N cert held c.args.fun.0 c.args.meter _ (magnitudes terms)
    (subst (λ (told : Line). Claims N cert c.args.fun.0 c.args.meter (claim_of told)) c.in-Bound.is c.in_ok-poly.ensures.line) in
    of_terms (λ t. degrees t ≤ 4) terms (λ k d l. let few = (tuples.each k d l).1 in let most = held.most_degree in omega (arith, few, most))
