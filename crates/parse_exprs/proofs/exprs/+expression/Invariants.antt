use Rattle.std.proofs.Common.{◌≡◌, ◌≤◌, ◌<◌, ◌-◌, ◌+◌, ◌*◌, suc, []}
use Rattle.std.specs.Prelude.{vec_len}
use Rattle.parse_spec.specs.Rules.{Done}
use Rattle.parse_spec.specs.Reading.{read, rule_of, list_of, items_of}
use Rattle.parse_table.specs.Table.{grammar, key, expr, inner_act}
use Rattle.parse_table.specs.Read.{pieces, phrases_back}
use Rattle.parse_table.specs.declared.token.Sign.TheVariants.{Comma}
use Rattle.parse_exprs.proofs.exprs.+expression.Given as goal

abbrev pub decreases-parse_expr : goal.decreases-parse_expr
decreases-parse_expr l = l.depth * (4 * l.depth + 90)

abbrev pub decreases-parts::parse_part : goal.decreases-parts::parse_part
decreases-parts::parse_part l = l.depth * (4 * l.depth + 90) + 1

abbrev pub decreases-parts::parse_before : goal.decreases-parts::parse_before
decreases-parts::parse_before l = l.depth * (4 * l.depth + 90) + 2

abbrev pub decreases-parts::parse_after : goal.decreases-parts::parse_after
decreases-parts::parse_after l = l.depth * (4 * l.depth + 90) + 2

abbrev pub decreases-parts::parse_two : goal.decreases-parts::parse_two
decreases-parts::parse_two l = l.depth * (4 * l.depth + 90) + 3

abbrev pub decreases-operators::parse_operation : goal.decreases-operators::parse_operation
decreases-operators::parse_operation l = l.depth * (4 * l.depth + 90) + 1

abbrev pub decreases-calls::parse_arg : goal.decreases-calls::parse_arg
decreases-calls::parse_arg l = l.depth * (4 * l.depth + 90) + 1

abbrev pub decreases-parse_level : goal.decreases-parse_level
decreases-parse_level l = l.depth * (4 * l.depth + 90) + 4 * l.depth + 50 + 2 * l.level

abbrev pub decreases-operators::parse_operators : goal.decreases-operators::parse_operators
decreases-operators::parse_operators l = l.depth * (4 * l.depth + 90) + 4 * l.depth + 51 + 2 * l.level

abbrev pub decreases-operators::parse_chain : goal.decreases-operators::parse_chain
decreases-operators::parse_chain l = l.depth * (4 * l.depth + 90) + 2 * (suc l.depth - l.height) + 20

abbrev pub decreases-operators::parse_behind : goal.decreases-operators::parse_behind
decreases-operators::parse_behind l = l.depth * (4 * l.depth + 90) + 2 * (suc l.depth - l.height) + 19

abbrev pub decreases-parse_form : goal.decreases-parse_form
decreases-parse_form l = l.depth * (4 * l.depth + 90) + 16

abbrev pub decreases-parse_simple : goal.decreases-parse_simple
decreases-parse_simple l = l.depth * (4 * l.depth + 90) + 15

abbrev pub decreases-parse_compound : goal.decreases-parse_compound
decreases-parse_compound l = l.depth * (4 * l.depth + 90) + 15

abbrev pub decreases-calls::parse_name : goal.decreases-calls::parse_name
decreases-calls::parse_name l = l.depth * (4 * l.depth + 90) + 14

abbrev pub decreases-calls::parse_call : goal.decreases-calls::parse_call
decreases-calls::parse_call l = l.depth * (4 * l.depth + 90) + 13

abbrev pub decreases-calls::parse_args : goal.decreases-calls::parse_args
decreases-calls::parse_args l = l.depth * (4 * l.depth + 90) + 12

abbrev pub decreases-groups::parse_node : goal.decreases-groups::parse_node
decreases-groups::parse_node l = l.depth * (4 * l.depth + 90) + 14

abbrev pub decreases-groups::parse_some : goal.decreases-groups::parse_some
decreases-groups::parse_some l = l.depth * (4 * l.depth + 90) + 14

abbrev pub decreases-parse_not : goal.decreases-parse_not
decreases-parse_not l = l.depth * (4 * l.depth + 90) + 14

abbrev pub decreases-groups::parse_parens : goal.decreases-groups::parse_parens
decreases-groups::parse_parens l = l.depth * (4 * l.depth + 90) + 14

abbrev pub decreases-groups::parse_closing : goal.decreases-groups::parse_closing
decreases-groups::parse_closing l = l.depth * (4 * l.depth + 90) + 13

abbrev pub decreases-groups::parse_pair : goal.decreases-groups::parse_pair
decreases-groups::parse_pair l = l.depth * (4 * l.depth + 90) + 12

abbrev pub decreases-bindings::parse_let : goal.decreases-bindings::parse_let
decreases-bindings::parse_let l = l.depth * (4 * l.depth + 90) + 14

abbrev pub decreases-bindings::parse_let_one : goal.decreases-bindings::parse_let_one
decreases-bindings::parse_let_one l = l.depth * (4 * l.depth + 90) + 12

abbrev pub decreases-bindings::parse_let_pair : goal.decreases-bindings::parse_let_pair
decreases-bindings::parse_let_pair l = l.depth * (4 * l.depth + 90) + 12

abbrev pub decreases-bindings::parse_if : goal.decreases-bindings::parse_if
decreases-bindings::parse_if l = l.depth * (4 * l.depth + 90) + 14

abbrev pub decreases-cases::parse_match : goal.decreases-cases::parse_match
decreases-cases::parse_match l = l.depth * (4 * l.depth + 90) + 14

abbrev pub decreases-cases::parse_cases : goal.decreases-cases::parse_cases
decreases-cases::parse_cases l = l.depth * (4 * l.depth + 90) + 13

abbrev pub decreases-cases::parse_list_cases : goal.decreases-cases::parse_list_cases
decreases-cases::parse_list_cases l = l.depth * (4 * l.depth + 90) + 12

abbrev pub decreases-cases::parse_option_cases : goal.decreases-cases::parse_option_cases
decreases-cases::parse_option_cases l = l.depth * (4 * l.depth + 90) + 12

abbrev pub decreases-cases::parse_tree_cases : goal.decreases-cases::parse_tree_cases
decreases-cases::parse_tree_cases l = l.depth * (4 * l.depth + 90) + 12

abbrev pub decreases-bindings::parse_tick : goal.decreases-bindings::parse_tick
decreases-bindings::parse_tick l = l.depth * (4 * l.depth + 90) + 14

abbrev pub invariant-calls::parse_args-loop-next : goal.invariant-calls::parse_args-loop-next
invariant-calls::parse_args-loop-next l =
    (list_of (rule_of grammar (read grammar 0 l.depth) 0 l.depth (expr (Done inner_act)) []) (key Comma) 7 (pieces l.tokens)
    ≡ items_of (rule_of grammar (read grammar 0 l.depth) 0 l.depth (expr (Done inner_act)) []) (key Comma) (8 - vec_len l.args) (phrases_back l.args.items) l.height (pieces l.rest))
    × (l.height ≤ l.depth) × (vec_len l.args ≤ 8) × (0 < vec_len l.args)

abbrev pub decreases-calls::parse_args-loop-next : goal.decreases-calls::parse_args-loop-next
decreases-calls::parse_args-loop-next l = 8 - vec_len l.args
