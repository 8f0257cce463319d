use Rattle.std.proofs.Common.{◌≡◌, ◌≤◌, ◌<◌, ◌-◌, []}
use Rattle.std.specs.Prelude.{vec_len}
use Rattle.parse_spec.specs.Reading.{read, rule_of, list_of, items_of}
use Rattle.parse_table.specs.Table.{grammar, function_rule, place}
use Rattle.parse_table.specs.Read.{StartsAt, HaveParameters, pieces, functions_back}
use Rattle.parse_table.specs.declared.token.Sign.TheVariants.{Fun}
use Rattle.raml_parse.proofs.program.parse_functions.Given as goal

abbrev pub invariant-loop-next_at : goal.invariant-loop-next_at
invariant-loop-next_at l =
    (list_of (rule_of grammar (read grammar 0 l.depth) 0 l.depth function_rule []) (place Fun) 255 (pieces l.tokens)
    ≡ items_of (rule_of grammar (read grammar 0 l.depth) 0 l.depth function_rule []) (place Fun) (256 - vec_len l.funs) (functions_back l.funs.items) l.height (pieces l.rest))
    × (l.height ≤ l.depth) × (vec_len l.funs ≤ 256) × (0 < vec_len l.funs) × StartsAt l.fn.at.0 l.funs.items × HaveParameters l.funs.items

abbrev pub decreases-loop-next_at : goal.decreases-loop-next_at
decreases-loop-next_at l = 256 - vec_len l.funs
