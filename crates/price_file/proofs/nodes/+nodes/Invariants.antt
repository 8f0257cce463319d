use Rattle.std.proofs.Common.{◌≡◌, ◌≤◌, ◌+◌, ◌*◌, ◌++◌, map, drop}
use Rattle.raml_syntax.specs.Read.{term_of, terms_of}
use Rattle.raml_syntax.specs.Node.{nodes, nodes_of_all}
use Rattle.price_file.specs.Read.{applied_by}
use Rattle.price_file.proofs.nodes.+nodes.Given as goal

abbrev pub decreases-apply_expr : goal.decreases-apply_expr
decreases-apply_expr l = 4 * nodes (term_of l.e.now)

abbrev pub decreases-apply_call : goal.decreases-apply_call
decreases-apply_call l = 4 * nodes_of_all (terms_of l.args.now) + 3

abbrev pub decreases-apply_all : goal.decreases-apply_all
decreases-apply_all l = 4 * nodes_of_all (terms_of l.args.now) + 2

abbrev pub decreases-operators::apply_arith : goal.decreases-operators::apply_arith
decreases-operators::apply_arith l = 4 * (nodes (term_of l.left.now) + nodes (term_of l.right.now)) + 3

abbrev pub decreases-operators::apply_compare : goal.decreases-operators::apply_compare
decreases-operators::apply_compare l = 4 * (nodes (term_of l.left.now) + nodes (term_of l.right.now)) + 3

abbrev pub decreases-operators::apply_not : goal.decreases-operators::apply_not
decreases-operators::apply_not l = 4 * nodes (term_of l.operand.now) + 3

abbrev pub decreases-values::apply_pair : goal.decreases-values::apply_pair
decreases-values::apply_pair l = 4 * (nodes (term_of l.first.now) + nodes (term_of l.second.now)) + 3

abbrev pub decreases-values::apply_cons : goal.decreases-values::apply_cons
decreases-values::apply_cons l = 4 * (nodes (term_of l.head.now) + nodes (term_of l.tail.now)) + 3

abbrev pub decreases-values::apply_node : goal.decreases-values::apply_node
decreases-values::apply_node l = 4 * (nodes (term_of l.element.now) + nodes (term_of l.left.now) + nodes (term_of l.right.now)) + 3

abbrev pub decreases-values::apply_just : goal.decreases-values::apply_just
decreases-values::apply_just l = 4 * nodes (term_of l.content.now) + 3

abbrev pub decreases-bindings::apply_let : goal.decreases-bindings::apply_let
decreases-bindings::apply_let l = 4 * (nodes (term_of l.bound.now) + nodes (term_of l.rest.now)) + 3

abbrev pub decreases-bindings::apply_let_pair : goal.decreases-bindings::apply_let_pair
decreases-bindings::apply_let_pair l = 4 * (nodes (term_of l.bound.now) + nodes (term_of l.rest.now)) + 3

abbrev pub decreases-bindings::apply_tick : goal.decreases-bindings::apply_tick
decreases-bindings::apply_tick l = 4 * nodes (term_of l.rest.now) + 3

abbrev pub decreases-bindings::apply_typed : goal.decreases-bindings::apply_typed
decreases-bindings::apply_typed l = 4 * nodes (term_of l.inner.now) + 3

abbrev pub decreases-matches::apply_if : goal.decreases-matches::apply_if
decreases-matches::apply_if l = 4 * (nodes (term_of l.condition.now) + nodes (term_of l.first.now) + nodes (term_of l.second.now)) + 3

abbrev pub decreases-matches::apply_match_list : goal.decreases-matches::apply_match_list
decreases-matches::apply_match_list l = 4 * (nodes (term_of l.subject.now) + nodes (term_of l.empty.now) + nodes (term_of l.rest.now)) + 3

abbrev pub decreases-matches::apply_match_tree : goal.decreases-matches::apply_match_tree
decreases-matches::apply_match_tree l = 4 * (nodes (term_of l.subject.now) + nodes (term_of l.empty.now) + nodes (term_of l.rest.now)) + 3

abbrev pub decreases-matches::apply_match_option : goal.decreases-matches::apply_match_option
decreases-matches::apply_match_option l = 4 * (nodes (term_of l.subject.now) + nodes (term_of l.empty.now) + nodes (term_of l.rest.now)) + 3

abbrev pub invariant-apply_all-loop-arg : goal.invariant-apply_all-loop-arg
invariant-apply_all-loop-arg l = record {
  made : map term_of l.made.items ++ map (applied_by l.maker) (map term_of (drop l.arg-index l.args)) ≡ map (applied_by l.maker) (map term_of l.args);
  fewer : nodes_of_all (terms_of (drop l.arg-index l.args)) ≤ nodes_of_all (terms_of l.args);
}
