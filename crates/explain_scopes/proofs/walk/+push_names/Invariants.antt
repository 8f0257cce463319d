use Rattle.std.proofs.Common.{◌≡◌, ◌+◌, ◌*◌, ◌≤◌, ◌++◌, drop}
use Rattle.raml_syntax.specs.Read.{term_of, terms_of}
use Rattle.raml_syntax.specs.Node.{nodes, nodes_of_all}
use Rattle.explain_scopes.specs.Scopes.{names_in_all}
use Rattle.explain_scopes.specs.Read.{bounds_of, occurrences_of, scope_of}
use Rattle.explain_scopes.proofs.walk.+push_names.Given as goal

abbrev pub decreases-push_names : goal.decreases-push_names
decreases-push_names l = 8 * nodes (term_of l.e.now)

abbrev pub decreases-push_two : goal.decreases-push_two
decreases-push_two l = 8 * (nodes (term_of l.first.now) + nodes (term_of l.second.now)) + 1

abbrev pub decreases-push_three : goal.decreases-push_three
decreases-push_three l = 8 * (nodes (term_of l.first.now) + nodes (term_of l.second.now) + nodes (term_of l.third.now)) + 2

abbrev pub decreases-push_call : goal.decreases-push_call
decreases-push_call l = 8 * nodes_of_all (terms_of l.args.now) + 2

abbrev pub decreases-push_all : goal.decreases-push_all
decreases-push_all l = 8 * nodes_of_all (terms_of l.args.now) + 1

abbrev pub decreases-push_below : goal.decreases-push_below
decreases-push_below l = 8 * nodes (term_of l.e.now) + 1

abbrev pub decreases-push_below_two : goal.decreases-push_below_two
decreases-push_below_two l = 8 * nodes (term_of l.e.now) + 2

abbrev pub decreases-push_below_three : goal.decreases-push_below_three
decreases-push_below_three l = 8 * nodes (term_of l.e.now) + 3

abbrev pub decreases-push_let : goal.decreases-push_let
decreases-push_let l = 8 * (nodes (term_of l.bound.now) + nodes (term_of l.rest.now)) + 4

abbrev pub decreases-push_let_pair : goal.decreases-push_let_pair
decreases-push_let_pair l = 8 * (nodes (term_of l.bound.now) + nodes (term_of l.rest.now)) + 4

abbrev pub decreases-push_list : goal.decreases-push_list
decreases-push_list l = 8 * (nodes (term_of l.subject.now) + nodes (term_of l.empty.now) + nodes (term_of l.rest.now)) + 4

abbrev pub decreases-push_tree : goal.decreases-push_tree
decreases-push_tree l = 8 * (nodes (term_of l.subject.now) + nodes (term_of l.empty.now) + nodes (term_of l.rest.now)) + 4

abbrev pub decreases-push_option : goal.decreases-push_option
decreases-push_option l = 8 * (nodes (term_of l.subject.now) + nodes (term_of l.empty.now) + nodes (term_of l.rest.now)) + 4

abbrev pub invariant-push_all-loop-arg : goal.invariant-push_all-loop-arg
invariant-push_all-loop-arg l =
    (occurrences_of l.found.items ++ names_in_all (bounds_of l.env.functions.now) (scope_of l.env.scope.now) (terms_of (drop l.arg-index l.args))
    ≡ occurrences_of l.fn.found.items ++ names_in_all (bounds_of l.env.functions.now) (scope_of l.env.scope.now) (terms_of l.args))
    × (nodes_of_all (terms_of (drop l.arg-index l.args)) ≤ nodes_of_all (terms_of l.args))
