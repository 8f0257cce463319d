use Rattle.std.proofs.Common.{◌≡◌, ◌≤◌, ◌+◌, ◌*◌, ◌++◌, map, drop}
use Rattle.raml_syntax.specs.Read.{term_of, terms_of}
use Rattle.raml_syntax.specs.Node.{nodes, nodes_of_all}
use Rattle.explain_count.specs.Count.{without_ticks}
use Rattle.explain_count.proofs.tickless.+tickless.Given as goal

abbrev pub decreases-without_ticks : goal.decreases-without_ticks
decreases-without_ticks l = 4 * nodes (term_of l.e.now)

abbrev pub decreases-call : goal.decreases-call
decreases-call l = 4 * nodes_of_all (terms_of l.args.now) + 3

abbrev pub decreases-all_without_ticks : goal.decreases-all_without_ticks
decreases-all_without_ticks l = 4 * nodes_of_all (terms_of l.args.now) + 2

abbrev pub decreases-operators::arith : goal.decreases-operators::arith
decreases-operators::arith l = 4 * (nodes (term_of l.left.now) + nodes (term_of l.right.now)) + 3

abbrev pub decreases-operators::compare : goal.decreases-operators::compare
decreases-operators::compare l = 4 * (nodes (term_of l.left.now) + nodes (term_of l.right.now)) + 3

abbrev pub decreases-operators::not : goal.decreases-operators::not
decreases-operators::not l = 4 * nodes (term_of l.operand.now) + 3

abbrev pub decreases-values::pair : goal.decreases-values::pair
decreases-values::pair l = 4 * (nodes (term_of l.first.now) + nodes (term_of l.second.now)) + 3

abbrev pub decreases-values::cons : goal.decreases-values::cons
decreases-values::cons l = 4 * (nodes (term_of l.head.now) + nodes (term_of l.tail.now)) + 3

abbrev pub decreases-values::tree_node : goal.decreases-values::tree_node
decreases-values::tree_node l = 4 * (nodes (term_of l.element.now) + nodes (term_of l.left.now) + nodes (term_of l.right.now)) + 3

abbrev pub decreases-values::just : goal.decreases-values::just
decreases-values::just l = 4 * nodes (term_of l.content.now) + 3

abbrev pub decreases-bindings::let_one : goal.decreases-bindings::let_one
decreases-bindings::let_one l = 4 * (nodes (term_of l.bound.now) + nodes (term_of l.rest.now)) + 3

abbrev pub decreases-bindings::let_pair : goal.decreases-bindings::let_pair
decreases-bindings::let_pair l = 4 * (nodes (term_of l.bound.now) + nodes (term_of l.rest.now)) + 3

abbrev pub decreases-bindings::typed : goal.decreases-bindings::typed
decreases-bindings::typed l = 4 * nodes (term_of l.inner.now) + 3

abbrev pub decreases-branches::branch : goal.decreases-branches::branch
decreases-branches::branch l = 4 * (nodes (term_of l.condition.now) + nodes (term_of l.first.now) + nodes (term_of l.second.now)) + 3

abbrev pub decreases-branches::match_list : goal.decreases-branches::match_list
decreases-branches::match_list l = 4 * (nodes (term_of l.subject.now) + nodes (term_of l.empty.now) + nodes (term_of l.rest.now)) + 3

abbrev pub decreases-branches::match_tree : goal.decreases-branches::match_tree
decreases-branches::match_tree l = 4 * (nodes (term_of l.subject.now) + nodes (term_of l.empty.now) + nodes (term_of l.rest.now)) + 3

abbrev pub decreases-branches::match_option : goal.decreases-branches::match_option
decreases-branches::match_option l = 4 * (nodes (term_of l.subject.now) + nodes (term_of l.empty.now) + nodes (term_of l.rest.now)) + 3

abbrev pub invariant-all_without_ticks-loop-arg : goal.invariant-all_without_ticks-loop-arg
invariant-all_without_ticks-loop-arg l = record {
  made : map term_of l.made.items ++ map without_ticks (map term_of (drop l.arg-index l.args)) ≡ map without_ticks (map term_of l.args);
  fewer : nodes_of_all (terms_of (drop l.arg-index l.args)) ≤ nodes_of_all (terms_of l.args);
}
