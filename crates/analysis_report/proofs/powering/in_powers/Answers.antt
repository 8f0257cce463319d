use Rattle.std.proofs.Common.{◌≡◌, ◌≤◌, Err, sym, ap, ◌∙◌}
use Rattle.base_poly.specs.Indices.{AreIndices}
use Rattle.base_poly.specs.Plain.{degrees}
use Rattle.base_poly.specs.Read.{context_of}
use Rattle.cost_free.proofs.Results.{of_error}
use Rattle.bound_compare.specs.declared.fault.PowerFault.TheVariants.{Leaves}
use Rattle.analysis_report.proofs.Tuples.{of_terms}
use Rattle.analysis_report.proofs.powering.in_powers.Goals as goal

pub powers-requires-clause-tuples : goal.powers-requires-clause-tuples
powers-requires-clause-tuples c = of_terms (λ t. AreIndices t (context_of c.args.types.now)) c.args.poly.now.terms.items (λ k d l. (c.requires.tuples k d l).0)

pub powers-requires-clause-low : goal.powers-requires-clause-low
powers-requires-clause-low c = of_terms (λ t. degrees t ≤ 4) c.args.poly.now.terms.items (λ k d l. (c.requires.tuples k d l).1)

pub returns-in_err-powers-clause-leaves : goal.returns-in_err-powers-clause-leaves
returns-in_err-powers-clause-leaves c e =
    let fault : c.in_err-powers.field-0.0 ≡ Leaves = of_error _ _ _ c.from_residual.ensures.1 e in
    (sym c.is_flat.ensures ∙ c.if-is_flat.true, c.powers.ensures.leaves (c.in_err-powers.was ∙ ap Err fault))
