use Rattle.std.proofs.Common.{◌≡◌, ◌≤◌, [], ◌∷◌, refl}
use Rattle.raml_syntax.specs.Types.{types_of}
use Rattle.base_poly.specs.Indices.{AreIndices}
use Rattle.base_poly.specs.Plain.{degrees}
use Rattle.base_poly.specs.Poly.{IsPoly, den_of, terms_of}
use Rattle.annot_types.specs.Held.{Bound, lines_for, line}
use Rattle.rules_plan.specs.Read.{program_in}
use Rattle.bound_file.specs.Read.{line_of}
use Rattle.analysis_report.proofs.Tuples.{of_terms}
use Rattle.explain_budget.proofs.Claimed.{meter_there}
use Rattle.explain_budget.proofs.judging.found.Goals as goal

pub line-requires-clause-meter : goal.line-requires-clause-meter
line-requires-clause-meter c = meter_there c.args.line.now.meter _ c.requires.work

pub returns-in-Bound : goal.returns-in-Bound
returns-in-Bound c =
    let poly = c.in-Bound.poly in
    let l = line_of c.args.line.now in
    let K = c.args.verified.now in
    let told : lines_for (program_in K.program) K.certificate l.fun l.meter ≡ line l.fun l.meter (Bound (den_of poly) (terms_of poly)) ∷ [] = rw c.in-Bound.is at c.in_ok-poly.ensures.line in
    let written : IsPoly poly = rw c.in-Bound.is at c.in_ok-poly.ensures.poly in
    let over = c.requires.over l (den_of poly) (terms_of poly) told in (
      Bound (den_of poly) (terms_of poly),
      told,
      refl,
      λ g there. record {
        polynomial = written;
        indices = of_terms (λ t. AreIndices t (types_of g)) poly.terms.items (λ k d low. (over g there k d low).0);
        low = of_terms (λ t. degrees t ≤ 4) poly.terms.items (λ k d low. (over g there k d low).1);
      },
    )
