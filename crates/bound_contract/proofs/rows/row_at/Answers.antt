use Rattle.std.proofs.Common.{rules, ◌≡◌, ◌≤◌, ◌<◌, ◌+◌, ◌*◌, ◌≤ℤ◌, ◌<ℤ◌, ap, sym, ◌∙◌, subst, ℕ, pos, unsigned_abs, IfOk, IfSome, IfNone, FitsSigned, to_z, of_z}
use Rattle.std.specs.Int.{w128}
use Rattle.std.proofs.lemmas.Int.{to_z-of_z}
use Rattle.simplex_integers.specs.Wholes.{most}
use Rattle.bound_file.specs.Lines.{denominator_at}
use Rattle.bound_contract.specs.System.{at_most}
use Rattle.bound_file.specs.Read.{coefficients_of}
use Rattle.bound_contract.proofs.Adding.{numerator_is, denominator_is, numerator_natural, denominator_positive}
use Rattle.bound_contract.proofs.rows.row_at.Goals as goal

pub row_for-requires-clause-natural : goal.row_for-requires-clause-natural
row_for-requires-clause-natural c =
    let f : FitsSigned w128 c.numerator_in-numerator.result = search rules in
    subst (λ z. pos 0 ≤ℤ z) (sym (to_z-of_z w128 c.numerator_in-numerator.result f))
    (subst (λ z. pos 0 ≤ℤ z) (sym c.numerator_in-numerator.ensures) (numerator_natural c.args.bound.now c.requires.positive c.args.position))

pub row_for-requires-clause-positive : goal.row_for-requires-clause-positive
row_for-requires-clause-positive c =
    let f : FitsSigned w128 c.denominator_in-denominator.result = search rules in
    subst (λ z. pos 0 <ℤ z) (sym (to_z-of_z w128 c.denominator_in-denominator.result f))
    (subst (λ z. pos 0 <ℤ z) (sym c.denominator_in-denominator.ensures) (denominator_positive c.args.bound.now c.requires.positive c.args.position))

pub returns-clause-made : goal.returns-clause-made
returns-clause-made c =
    let f : FitsSigned w128 c.numerator_in-numerator.result = search rules in
    let g : FitsSigned w128 c.denominator_in-denominator.result = search rules in
    let n = ap unsigned_abs (to_z-of_z w128 c.numerator_in-numerator.result f ∙ c.numerator_in-numerator.ensures ∙ numerator_is c.args.bound.now c.requires.positive c.args.position) in
    let m = ap unsigned_abs (to_z-of_z w128 c.denominator_in-denominator.result g ∙ c.denominator_in-denominator.ensures ∙ denominator_is c.args.bound.now c.requires.positive c.args.position) in
    let s = ap unsigned_abs (to_z-of_z w128 c.args.scale c.ranges.scale) in
    subst (λ (n : ℕ). IfOk c.row_for.result (λ made. IfSome made (λ row. row ≡ at_most (c.args.first + c.args.position) n (denominator_at (coefficients_of c.args.bound.now) c.args.position) (unsigned_abs c.args.scale)))) n
    (subst (λ (m : ℕ). IfOk c.row_for.result (λ made. IfSome made (λ row. row ≡ at_most (c.args.first + c.args.position) (unsigned_abs (to_z w128 (of_z w128 c.numerator_in-numerator.result))) m (unsigned_abs c.args.scale)))) m
    (subst (λ (s : ℕ). IfOk c.row_for.result (λ made. IfSome made (λ row. row ≡ at_most (c.args.first + c.args.position) (unsigned_abs (to_z w128 (of_z w128 c.numerator_in-numerator.result))) (unsigned_abs (to_z w128 (of_z w128 c.denominator_in-denominator.result))) s))) s
    c.row_for.ensures.made))

pub returns-clause-fits : goal.returns-clause-fits
returns-clause-fits c =
    let f : FitsSigned w128 c.numerator_in-numerator.result = search rules in
    let n = ap unsigned_abs (to_z-of_z w128 c.numerator_in-numerator.result f ∙ c.numerator_in-numerator.ensures ∙ numerator_is c.args.bound.now c.requires.positive c.args.position) in
    let s = ap unsigned_abs (to_z-of_z w128 c.args.scale c.ranges.scale) in
    subst (λ (n : ℕ). IfOk c.row_for.result (λ made. IfSome made (λ row. n * unsigned_abs c.args.scale < most))) n
    (subst (λ (s : ℕ). IfOk c.row_for.result (λ made. IfSome made (λ row. unsigned_abs (to_z w128 (of_z w128 c.numerator_in-numerator.result)) * s < most))) s c.row_for.ensures.fits)

pub returns-clause-leaves : goal.returns-clause-leaves
returns-clause-leaves c =
    let f : FitsSigned w128 c.numerator_in-numerator.result = search rules in
    let n = ap unsigned_abs (to_z-of_z w128 c.numerator_in-numerator.result f ∙ c.numerator_in-numerator.ensures ∙ numerator_is c.args.bound.now c.requires.positive c.args.position) in
    let s = ap unsigned_abs (to_z-of_z w128 c.args.scale c.ranges.scale) in
    subst (λ (n : ℕ). IfOk c.row_for.result (λ made. IfNone made (most ≤ n * unsigned_abs c.args.scale))) n
    (subst (λ (s : ℕ). IfOk c.row_for.result (λ made. IfNone made (most ≤ unsigned_abs (to_z w128 (of_z w128 c.numerator_in-numerator.result)) * s))) s c.row_for.ensures.leaves)
