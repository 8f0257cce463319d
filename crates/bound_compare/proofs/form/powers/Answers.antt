use Rattle.std.proofs.Common.{◌≡◌, ◌≤◌, Err, ap, ◌∙◌, subst}
use Rattle.std.specs.Prelude.{unsigned_abs}
use Rattle.std.proofs.lemmas.List.{length-map}
use Rattle.std.proofs.lemmas.List.Elements.{All-map}
use Rattle.raml_syntax.specs.Read.{ty_of}
use Rattle.base_poly.specs.Plain.{degrees}
use Rattle.base_poly.specs.Indices.{AreIndices}
use Rattle.base_poly.specs.Read.{context_of}
use Rattle.base_poly.specs.Poly.{den_of, magnitudes, terms_of}
use Rattle.bound_compare.specs.Powers as powers
use Rattle.bound_compare.specs.declared.fault.PowerFault.TheVariants.{Leaves}
use Rattle.bound_compare.proofs.Listed.{these}
use Rattle.bound_compare.proofs.Made.{of_error}
use Rattle.bound_compare.proofs.form.powers.Goals as goal

pub returns-in_ok-terms-in-Some-clause-these : goal.returns-in_ok-terms-in-Some-clause-these
returns-in_ok-terms-in-Some-clause-these c =
    let ts = c.args.poly.now.terms.items in
    let As = context_of c.args.params.now in
    these As (terms_of c.args.poly.now) c.in_ok-terms-in-Some.terms.items
    (All-map (λ t. AreIndices t.0 As) (λ t. (t.0, unsigned_abs t.1)) ts c.requires.tuples)
    (All-map (λ t. degrees t.0 ≤ 4) (λ t. (t.0, unsigned_abs t.1)) ts c.requires.low)
    (subst (λ us. powers.ArePowers us c.in_ok-terms-in-Some.terms.items) (ap magnitudes c.deref.ensures.value) c.in_ok-terms-in-Some.ensures.powers)
    ∙ ap (λ n. powers.powers_of n (terms_of c.args.poly.now)) (length-map c.args.params.now ty_of)

pub returns-in_err-terms-in-Some-clause-leaves : goal.returns-in_err-terms-in-Some-clause-leaves
returns-in_err-terms-in-Some-clause-leaves c = λ e.
    let den = den_of c.args.poly.now in
    let fault : c.in_err-terms-in-Some.field-0.0 ≡ Leaves = of_error _ _ _ c.from_residual.ensures.1 e in
    subst (powers.Leaves den) (ap magnitudes c.deref.ensures.value) (c.sums.ensures.leaves (c.in_err-terms-in-Some.was ∙ ap Err fault) den)
