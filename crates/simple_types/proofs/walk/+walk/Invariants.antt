use Rattle.std.specs.Prelude.{◌+◌, ◌*◌}
use Rattle.raml_syntax.specs.Read.{term_of, terms_of}
use Rattle.raml_syntax.specs.Node.{nodes, nodes_of_all}
use Rattle.simple_types.proofs.walk.+walk.Given as goal

abbrev pub decreases-walk : goal.decreases-walk
decreases-walk l = 8 * nodes (term_of l.e.now)

abbrev pub decreases-walk_below_one : goal.decreases-walk_below_one
decreases-walk_below_one l = 8 * nodes (term_of l.e.now) + 1

abbrev pub decreases-walk_below_two : goal.decreases-walk_below_two
decreases-walk_below_two l = 8 * nodes (term_of l.e.now) + 2

abbrev pub decreases-walk_below_three : goal.decreases-walk_below_three
decreases-walk_below_three l = 8 * nodes (term_of l.e.now) + 3

abbrev pub decreases-operators::walk_not : goal.decreases-operators::walk_not
decreases-operators::walk_not l = 8 * nodes (term_of l.e.now) + 1

abbrev pub decreases-operators::walk_typed : goal.decreases-operators::walk_typed
decreases-operators::walk_typed l = 8 * nodes (term_of l.e.now) + 1

abbrev pub decreases-operators::walk_integers : goal.decreases-operators::walk_integers
decreases-operators::walk_integers l = 8 * (nodes (term_of l.left.now) + nodes (term_of l.right.now)) + 1

abbrev pub decreases-operators::walk_if : goal.decreases-operators::walk_if
decreases-operators::walk_if l = 8 * (nodes (term_of l.condition.now) + nodes (term_of l.yes.now) + nodes (term_of l.no.now)) + 1

abbrev pub decreases-bindings::walk_let : goal.decreases-bindings::walk_let
decreases-bindings::walk_let l = 8 * (nodes (term_of l.bound.now) + nodes (term_of l.rest.now)) + 2

abbrev pub decreases-bindings::walk_let_pair : goal.decreases-bindings::walk_let_pair
decreases-bindings::walk_let_pair l = 8 * (nodes (term_of l.bound.now) + nodes (term_of l.rest.now)) + 3

abbrev pub decreases-made::find_pair : goal.decreases-made::find_pair
decreases-made::find_pair l = 8 * (nodes (term_of l.first.now) + nodes (term_of l.second.now)) + 1

abbrev pub decreases-made::check_parts : goal.decreases-made::check_parts
decreases-made::check_parts l = 8 * (nodes (term_of l.first.now) + nodes (term_of l.second.now)) + 1

abbrev pub decreases-made::check_pair : goal.decreases-made::check_pair
decreases-made::check_pair l = 8 * (nodes (term_of l.first.now) + nodes (term_of l.second.now)) + 2

abbrev pub decreases-made::walk_pair : goal.decreases-made::walk_pair
decreases-made::walk_pair l = 8 * (nodes (term_of l.first.now) + nodes (term_of l.second.now)) + 3

abbrev pub decreases-made::find_cons : goal.decreases-made::find_cons
decreases-made::find_cons l = 8 * (nodes (term_of l.head.now) + nodes (term_of l.tail.now)) + 1

abbrev pub decreases-made::check_list : goal.decreases-made::check_list
decreases-made::check_list l = 8 * (nodes (term_of l.head.now) + nodes (term_of l.tail.now)) + 1

abbrev pub decreases-made::check_cons : goal.decreases-made::check_cons
decreases-made::check_cons l = 8 * (nodes (term_of l.head.now) + nodes (term_of l.tail.now)) + 2

abbrev pub decreases-made::walk_cons : goal.decreases-made::walk_cons
decreases-made::walk_cons l = 8 * (nodes (term_of l.head.now) + nodes (term_of l.tail.now)) + 3

abbrev pub decreases-made::check_trees : goal.decreases-made::check_trees
decreases-made::check_trees l = 8 * (nodes (term_of l.left.now) + nodes (term_of l.right.now)) + 1

abbrev pub decreases-made::find_node : goal.decreases-made::find_node
decreases-made::find_node l = 8 * (nodes (term_of l.element.now) + nodes (term_of l.left.now) + nodes (term_of l.right.now)) + 2

abbrev pub decreases-made::check_tree : goal.decreases-made::check_tree
decreases-made::check_tree l = 8 * (nodes (term_of l.element.now) + nodes (term_of l.left.now) + nodes (term_of l.right.now)) + 2

abbrev pub decreases-made::check_node : goal.decreases-made::check_node
decreases-made::check_node l = 8 * (nodes (term_of l.element.now) + nodes (term_of l.left.now) + nodes (term_of l.right.now)) + 3

abbrev pub decreases-made::walk_node : goal.decreases-made::walk_node
decreases-made::walk_node l = 8 * (nodes (term_of l.element.now) + nodes (term_of l.left.now) + nodes (term_of l.right.now)) + 4

abbrev pub decreases-made::find_just : goal.decreases-made::find_just
decreases-made::find_just l = 8 * nodes (term_of l.content.now) + 1

abbrev pub decreases-made::check_content : goal.decreases-made::check_content
decreases-made::check_content l = 8 * nodes (term_of l.content.now) + 1

abbrev pub decreases-made::check_just : goal.decreases-made::check_just
decreases-made::check_just l = 8 * nodes (term_of l.content.now) + 2

abbrev pub decreases-made::walk_just : goal.decreases-made::walk_just
decreases-made::walk_just l = 8 * nodes (term_of l.content.now) + 3

abbrev pub decreases-matches::walk_list_branches : goal.decreases-matches::walk_list_branches
decreases-matches::walk_list_branches l = 8 * (nodes (term_of l.empty.now) + nodes (term_of l.rest.now)) + 3

abbrev pub decreases-matches::walk_tree_branches : goal.decreases-matches::walk_tree_branches
decreases-matches::walk_tree_branches l = 8 * (nodes (term_of l.empty.now) + nodes (term_of l.rest.now)) + 4

abbrev pub decreases-matches::walk_option_branches : goal.decreases-matches::walk_option_branches
decreases-matches::walk_option_branches l = 8 * (nodes (term_of l.empty.now) + nodes (term_of l.rest.now)) + 2

abbrev pub decreases-matches::walk_match_list : goal.decreases-matches::walk_match_list
decreases-matches::walk_match_list l = 8 * (nodes (term_of l.subject.now) + nodes (term_of l.empty.now) + nodes (term_of l.rest.now)) + 4

abbrev pub decreases-matches::walk_match_tree : goal.decreases-matches::walk_match_tree
decreases-matches::walk_match_tree l = 8 * (nodes (term_of l.subject.now) + nodes (term_of l.empty.now) + nodes (term_of l.rest.now)) + 5

abbrev pub decreases-matches::walk_match_option : goal.decreases-matches::walk_match_option
decreases-matches::walk_match_option l = 8 * (nodes (term_of l.subject.now) + nodes (term_of l.empty.now) + nodes (term_of l.rest.now)) + 3

abbrev pub decreases-calls::walk_arguments : goal.decreases-calls::walk_arguments
decreases-calls::walk_arguments l = 8 * nodes_of_all (terms_of l.args.now) + 4

abbrev pub decreases-calls::walk_call_of : goal.decreases-calls::walk_call_of
decreases-calls::walk_call_of l = 8 * nodes_of_all (terms_of l.args.now) + 5

abbrev pub decreases-calls::walk_call : goal.decreases-calls::walk_call
decreases-calls::walk_call l = 8 * nodes_of_all (terms_of l.args.now) + 6
