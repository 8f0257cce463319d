use Rattle.std.proofs.Common.{subst, take, ◌∷◌}
use Rattle.value_text.specs.Tokens.{IsMagnitude}
use Rattle.std.specs.List.{prefix_len}
use Rattle.raml_lex.specs.Lexemes.{is_digit, number_value}
use Rattle.value_text.proofs.Runs.{passes_more}
use Rattle.value_text.proofs.Lexed.{run_front}
use Rattle.value_text.proofs.token.number.Goals as goal

pub digits_value-requires : goal.digits_value-requires
digits_value-requires c = passes_more is_digit c.requires.0 c.args.rest.now _ c.requires.2 (run_front c.requires.0 (prefix_len is_digit c.args.rest.now) c.digits_len.result c.args.rest.now c.args.text.now c.requires.1 c.digits_len.ensures)

pub returns-clause-token : goal.returns-clause-token
returns-clause-token c = λ d is.
    let same = run_front d (prefix_len is_digit c.args.rest.now) c.digits_len.result c.args.rest.now c.args.text.now is c.digits_len.ensures in
    c.positive.ensures (number_value (d ∷ take (prefix_len is_digit c.args.rest.now) c.args.rest.now)) (subst (λ w. IsMagnitude (number_value w) c.digits_value.result) same c.digits_value.ensures)
