use Rattle.std.proofs.Common.{◌≡◌, ◌≤◌, ◌<◌, ◌^◌, ◌/◌, SFits, rules, sym, ap, ◌∙◌, subst}
use Rattle.std.specs.Prelude.{unsigned_abs, SomeIff}
use Rattle.std.specs.Int.{w128}
use Rattle.std.proofs.lemmas.Int.{to_z-of_z}
use Rattle.base_poly.specs.Poly.{den_of, magnitudes}
use Rattle.explain_sizes.specs.Counts.{worth_at, whole_at}
use Rattle.explain_sizes.specs.Read.{all_sizes}
use Rattle.explain_sizes.proofs.Told.{some_told, none_told}
use Rattle.explain_sizes.proofs.value.value_at.Goals as goal

pub returns-in_err-share : goal.returns-in_err-share
returns-in_err-share c =
    let poly = c.args.poly.now in
    let ss = all_sizes c.args.sizes.now in
    let fits : SFits w128 poly.den = search rules in
    let den : c.unsigned_abs.result ≡ den_of poly = c.unsigned_abs.ensures.value ∙ ap unsigned_abs (to_z-of_z w128 poly.den fits) in
    let whole : worth_at (magnitudes c.deref.result.now) ss / c.unsigned_abs.result ≡ whole_at poly ss = λ m. worth_at (magnitudes (c.deref.ensures.value m)) ss / den m in
    let some : 0 < c.unsigned_abs.result = search rules in
    subst (λ r. SomeIff r (whole_at poly ss ≤ 2 ^ 127) (whole_at poly ss)) (sym c.from_residual.ensures)
    (λ small. none_told c.unsigned_abs.result _ c.terms_counted.result c.in_err-share.was some c.terms_counted.ensures.holds (subst (λ n. n ≤ 2 ^ 127) (sym whole) small))

pub returns : goal.returns
returns c =
    let poly = c.args.poly.now in
    let ss = all_sizes c.args.sizes.now in
    let fits : SFits w128 poly.den = search rules in
    let den : c.unsigned_abs.result ≡ den_of poly = c.unsigned_abs.ensures.value ∙ ap unsigned_abs (to_z-of_z w128 poly.den fits) in
    let whole : worth_at (magnitudes c.deref.result.now) ss / c.unsigned_abs.result ≡ whole_at poly ss = λ m. worth_at (magnitudes (c.deref.ensures.value m)) ss / den m in
    let told = some_told c.unsigned_abs.result _ c.terms_counted.result c.in_ok-share.share c.in_ok-share.was c.terms_counted.ensures.proper c.terms_counted.ensures.holds in
    (subst (λ n. n ≤ 2 ^ 127) whole told.0, told.1 ∙ whole)
