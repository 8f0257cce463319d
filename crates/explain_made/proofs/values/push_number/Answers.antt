use Rattle.std.proofs.Common.{◌≡◌, ◌++◌, ap, ◌∙◌, rules}
use Rattle.std.specs.Prelude.{FitsSigned, string_bytes}
use Rattle.std.specs.Int.{w64}
use Rattle.std.specs.Fmt.{signed_decimal}
use Rattle.explain_made.proofs.Added.{at_last, number_added}
use Rattle.explain_made.proofs.values.push_number.Goals as goal

pub returns : goal.returns
returns c =
    let fits : FitsSigned w64 c.args.number = search rules in
    let text : c.format.result.now ≡ signed_decimal c.args.number = search rules in
    at_last c.push_str.result _ _ c.format.result.now c.push_str.ensures.bytes
    (λ e. number_added c.args.number _ _ fits (e ∙ ap (λ t. string_bytes c.args.text.now ++ t) text))
