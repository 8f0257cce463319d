use Rattle.std.proofs.Common.{◌≡◌, ◌≤◌, ◌<◌, ◌-◌, []}
use Rattle.std.specs.Prelude.{vec_len}
use Rattle.parse_spec.specs.Reading.{read, rule_of, list_of, items_of}
use Rattle.parse_table.specs.Table.{grammar, param_rule, key}
use Rattle.parse_table.specs.Read.{pieces, headers_back}
use Rattle.parse_table.specs.declared.token.Sign.TheVariants.{Comma}
use Rattle.raml_parse.proofs.program.parse_params.Given as goal

abbrev pub invariant-loop-next : goal.invariant-loop-next
invariant-loop-next l =
    (list_of (rule_of grammar (read grammar 0 l.depth) 0 l.depth param_rule []) (key Comma) 7 (pieces l.tokens)
    ≡ items_of (rule_of grammar (read grammar 0 l.depth) 0 l.depth param_rule []) (key Comma) (8 - vec_len l.params) (headers_back l.params.items) l.height (pieces l.rest))
    × (l.height ≤ l.depth) × (vec_len l.params ≤ 8) × (0 < vec_len l.params)

abbrev pub decreases-loop-next : goal.decreases-loop-next
decreases-loop-next l = 8 - vec_len l.params
