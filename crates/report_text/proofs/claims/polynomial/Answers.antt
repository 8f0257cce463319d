use Rattle.std.proofs.Common.{◌≡◌, string_bytes}
use Rattle.std.proofs.lemmas.Result.{IfOk-weaker}
use Rattle.base_poly.specs.Poly.{den_of, terms_of}
use Rattle.poly_text.specs.Text.{IsTextOf}
use Rattle.report_text.specs.Polynomial.{polynomial_text}
use Rattle.report_text.proofs.HaveText.{polynomials_have_this_text}
use Rattle.report_text.proofs.claims.polynomial.Goals as goal

pub returns : goal.returns
returns c =
    let poly = c.args.poly.now in
    IfOk-weaker c.print.result (λ text. IsTextOf (den_of poly) (terms_of poly) (string_bytes text))
    (λ text. string_bytes text ≡ polynomial_text (den_of poly) (terms_of poly))
    (λ text h. polynomials_have_this_text poly (string_bytes text) c.requires h) c.print.ensures
