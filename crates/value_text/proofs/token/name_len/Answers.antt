use Rattle.std.proofs.Common.{rules, tests, ◌∙◌}
use Rattle.std.specs.Prelude.{not}
use Rattle.std.proofs.lemmas.Iterator.{YieldsList-from_slice}
use Rattle.std.proofs.lemmas.Iterator.Search.{position_from_yields_List}
use Rattle.raml_lex.specs.Lexemes.{is_name_part}
use Rattle.raml_lex.proofs.Runs.{fails_at}
use Rattle.value_text.proofs.Runs.{run_within}
use Rattle.value_text.proofs.token.name_len.Goals as goal

pub returns : goal.returns
returns c = run_within is_name_part c.args.text.now _ (c.unwrap_or.ensures ∙ fails_at is_name_part c.args.text.now c.position.result (position_from_yields_List (λ byte. not (is_name_part byte)) _ _ c.position.result c.position.ensures.ran (YieldsList-from_slice c.args.text.now (cc)) (λ x b q k. search (rules, tests))))
