use Rattle.std.proofs.Common.{◌≡◌, ◌≤◌, ◌<◌, ◌/◌, ◌^◌, Err, SFits, rules, sym, ap, ◌∙◌, subst}
use Rattle.std.specs.Prelude.{unsigned_abs}
use Rattle.std.specs.Int.{w128}
use Rattle.std.proofs.lemmas.Int.{to_z-of_z}
use Rattle.raml_syntax.specs.Value.{size}
use Rattle.base_poly.specs.Base.{total}
use Rattle.base_poly.specs.Poly.{magnitudes}
use Rattle.value_text.proofs.Standing.{stand_is}
use Rattle.poly_point.specs.Point.{worth}
use Rattle.poly_point.specs.declared.fault.PointFault.TheVariants.{Leaves}
use Rattle.poly_point.proofs.Arguments.{stand_there, of_error}
use Rattle.poly_point.proofs.point.at.Goals as goal

pub numerator-requires-clause-there : goal.numerator-requires-clause-there
numerator-requires-clause-there c = stand_there _ _ _ c.requires.args.stand

pub numerator-requires-clause-small : goal.numerator-requires-clause-small
numerator-requires-clause-small c = subst (λ vs. total size vs ≤ 2 ^ 20) (stand_is _ _ _ c.names_earlier.ensures c.requires.args.stand) c.requires.args.small

pub returns-in_err-numerator-clause-leaves : goal.returns-in_err-numerator-clause-leaves
returns-in_err-numerator-clause-leaves c = λ e vs h.
    let same = stand_is _ _ vs c.names_earlier.ensures h in
    let fault : c.in_err-numerator.field-0.0 ≡ Leaves = of_error _ _ _ c.from_residual.ensures.1 e in
    let large = c.numerator.ensures.leaves (c.in_err-numerator.was ∙ ap Err fault) in
    subst (λ n. 2 ^ 128 ≤ n) (λ n. worth (magnitudes (c.deref.ensures.value n)) (sym same n)) large

pub returns-clause-point : goal.returns-clause-point
returns-clause-point c = λ vs h.
    let same = stand_is _ _ vs c.names_earlier.ensures h in
    let sum = c.in_ok-numerator.ensures.sum ∙ (λ n. worth (magnitudes (c.deref.ensures.value n)) (sym same n)) in
    let fits : SFits w128 c.args.poly.now.den = search rules in
    let den = c.unsigned_abs.ensures.value ∙ ap unsigned_abs (to_z-of_z w128 c.args.poly.now.den fits) in
    let low : c.in_ok-numerator.numerator < 2 ^ 128 = search rules in
    record { numerator = sum; floor = λ n. sum n / den n; fits = subst (λ k. k < 2 ^ 128) sum low }
