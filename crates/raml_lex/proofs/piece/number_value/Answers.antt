use Rattle.std.proofs.Common.{◌∙◌, arith}
use Rattle.raml_lex.proofs.Values.{too_great}
use Rattle.raml_lex.proofs.piece.number_value.Goals as goal

pub returns-then-value : goal.returns-then-value
returns-then-value c =
    let p = too_great c.args.digits.now c.loop-digit.value c.loop-digit.digit-index c.from.result c.loop-digit-test.true c.loop-digit.invariant.so_far (c.from.ensures ∙ c.saturating_sub.ensures) c.if-value.true in
    λ small. omega (arith, p, small)
