use Rattle.std.proofs.Common.{◌≡◌, ◌+◌, ◌*◌, ◌≤◌, ◌++◌, drop}
use Rattle.raml_syntax.specs.Read.{term_of, terms_of}
use Rattle.raml_syntax.specs.Node.{nodes, nodes_of_all}
use Rattle.normal_spec.specs.One as one
use Rattle.normal_operands.specs.Read.{program_in, scope_in}
use Rattle.normal_operands.specs.Operand.{operands_of, types_in}
use Rattle.normal_operands.proofs.naming.+naming.Given as goal

abbrev pub decreases-name_expr : goal.decreases-name_expr
decreases-name_expr l = 8 * nodes (term_of l.e.now)

abbrev pub decreases-name_operand : goal.decreases-name_operand
decreases-name_operand l = 8 * nodes (term_of l.e.now) + 1

abbrev pub decreases-operators::name_arith : goal.decreases-operators::name_arith
decreases-operators::name_arith l = 8 * (nodes (term_of l.left.now) + nodes (term_of l.right.now)) + 3

abbrev pub decreases-operators::name_compare : goal.decreases-operators::name_compare
decreases-operators::name_compare l = 8 * (nodes (term_of l.left.now) + nodes (term_of l.right.now)) + 3

abbrev pub decreases-operators::name_not : goal.decreases-operators::name_not
decreases-operators::name_not l = 8 * nodes (term_of l.part.now) + 3

abbrev pub decreases-operators::name_pair : goal.decreases-operators::name_pair
decreases-operators::name_pair l = 8 * (nodes (term_of l.first.now) + nodes (term_of l.second.now)) + 3

abbrev pub decreases-operators::name_cons : goal.decreases-operators::name_cons
decreases-operators::name_cons l = 8 * (nodes (term_of l.head.now) + nodes (term_of l.tail.now)) + 3

abbrev pub decreases-operators::name_node : goal.decreases-operators::name_node
decreases-operators::name_node l = 8 * (nodes (term_of l.element.now) + nodes (term_of l.left.now) + nodes (term_of l.right.now)) + 3

abbrev pub decreases-operators::name_just : goal.decreases-operators::name_just
decreases-operators::name_just l = 8 * nodes (term_of l.content.now) + 3

abbrev pub decreases-operators::name_tick : goal.decreases-operators::name_tick
decreases-operators::name_tick l = 8 * nodes (term_of l.rest.now) + 3

abbrev pub decreases-calls::name_call : goal.decreases-calls::name_call
decreases-calls::name_call l = 8 * nodes_of_all (terms_of l.args.now) + 4

abbrev pub decreases-calls::name_arguments : goal.decreases-calls::name_arguments
decreases-calls::name_arguments l = 8 * nodes_of_all (terms_of l.args.now) + 3

abbrev pub decreases-bindings::name_below_one : goal.decreases-bindings::name_below_one
decreases-bindings::name_below_one l = 8 * nodes (term_of l.e.now) + 1

abbrev pub decreases-bindings::name_below_two : goal.decreases-bindings::name_below_two
decreases-bindings::name_below_two l = 8 * nodes (term_of l.e.now) + 2

abbrev pub decreases-bindings::name_below_three : goal.decreases-bindings::name_below_three
decreases-bindings::name_below_three l = 8 * nodes (term_of l.e.now) + 3

abbrev pub decreases-bindings::name_let : goal.decreases-bindings::name_let
decreases-bindings::name_let l = 8 * (nodes (term_of l.bound.now) + nodes (term_of l.rest.now)) + 4

abbrev pub decreases-bindings::name_let_pair : goal.decreases-bindings::name_let_pair
decreases-bindings::name_let_pair l = 8 * (nodes (term_of l.bound.now) + nodes (term_of l.rest.now)) + 4

abbrev pub decreases-matches::name_if : goal.decreases-matches::name_if
decreases-matches::name_if l = 8 * (nodes (term_of l.condition.now) + nodes (term_of l.yes.now) + nodes (term_of l.no.now)) + 4

abbrev pub decreases-matches::list_form : goal.decreases-matches::list_form
decreases-matches::list_form l = 8 * (nodes (term_of l.empty.now) + nodes (term_of l.rest.now)) + 4

abbrev pub decreases-matches::tree_form : goal.decreases-matches::tree_form
decreases-matches::tree_form l = 8 * (nodes (term_of l.empty.now) + nodes (term_of l.rest.now)) + 4

abbrev pub decreases-matches::option_form : goal.decreases-matches::option_form
decreases-matches::option_form l = 8 * (nodes (term_of l.empty.now) + nodes (term_of l.rest.now)) + 4

abbrev pub decreases-matches::name_match_list : goal.decreases-matches::name_match_list
decreases-matches::name_match_list l = 8 * (nodes (term_of l.subject.now) + nodes (term_of l.empty.now) + nodes (term_of l.rest.now)) + 5

abbrev pub decreases-matches::name_match_tree : goal.decreases-matches::name_match_tree
decreases-matches::name_match_tree l = 8 * (nodes (term_of l.subject.now) + nodes (term_of l.empty.now) + nodes (term_of l.rest.now)) + 5

abbrev pub decreases-matches::name_match_option : goal.decreases-matches::name_match_option
decreases-matches::name_match_option l = 8 * (nodes (term_of l.subject.now) + nodes (term_of l.empty.now) + nodes (term_of l.rest.now)) + 5

abbrev pub invariant-calls::name_arguments-loop-arg : goal.invariant-calls::name_arguments-loop-arg
invariant-calls::name_arguments-loop-arg l =
    (operands_of l.operands.items ++ one.operands (program_in l.env) (scope_in l.env.scope.now) (terms_of (drop l.arg-index l.args)) (types_in l.rest) l.free
    ≡ one.operands (program_in l.env) (scope_in l.env.scope.now) (terms_of l.args) (types_in l.params) l.env.free)
    × (nodes_of_all (terms_of (drop l.arg-index l.args)) ≤ nodes_of_all (terms_of l.args))
