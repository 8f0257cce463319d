use Rattle.std.proofs.Common.{sym, subst, take}
use Rattle.std.specs.List.{AllPass}
use Rattle.raml_lex.specs.Lexemes.{is_digit}
use Rattle.raml_lex.proofs.Runs.{run_passes}
use Rattle.value_text.proofs.token.minus.Goals as goal

pub digits_value-requires : goal.digits_value-requires
digits_value-requires c = subst (λ n. AllPass is_digit (take n c.args.rest.now)) (sym c.digits_len-len.ensures.0) (run_passes is_digit c.args.rest.now)
