use Rattle.std.proofs.Common.{◌≤◌, ◌^◌, refl, arith, take}
use Rattle.raml_lex.specs.Lexemes.{number_value}
use Rattle.raml_lex.proofs.Words.{number_stands_at, too_wide_at}
use Rattle.raml_lex.proofs.piece.number.Goals as goal

pub returns-in-Some : goal.returns-in-Some
returns-in-Some c = number_stands_at c.args.text.now c.digits_len-len.result c.requires c.digits_len-len.ensures c.in-Some.ensures.0

pub returns-in-None : goal.returns-in-None
returns-in-None c =
    let wide : 2 ^ 63 ≤ number_value (take c.digits_len-len.result c.args.text.now) = omega (arith, c.in-None.ensures) in
    (refl, too_wide_at c.args.text.now c.digits_len-len.result c.requires c.digits_len-len.ensures wide)
