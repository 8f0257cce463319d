use Rattle.std.proofs.Common.{◌+◌, ◌*◌}
use Rattle.raml_syntax.specs.Read.{term_of, terms_of}
use Rattle.raml_syntax.specs.Node.{nodes, nodes_of_all}
use Rattle.explain_uses.proofs.walk.+walk.Given as goal

abbrev pub decreases-walk : goal.decreases-walk
decreases-walk l = 4 * nodes (term_of l.e.now)

abbrev pub decreases-walk_behind : goal.decreases-walk_behind
decreases-walk_behind l = 4 * nodes (term_of l.e.now) + 1

abbrev pub decreases-walk_both_behind : goal.decreases-walk_both_behind
decreases-walk_both_behind l = 4 * (nodes (term_of l.first.now) + nodes (term_of l.second.now)) + 2

abbrev pub decreases-walk_all : goal.decreases-walk_all
decreases-walk_all l = 4 * nodes_of_all (terms_of l.args.now) + 1

abbrev pub decreases-branches::walk_let : goal.decreases-branches::walk_let
decreases-branches::walk_let l = 4 * (nodes (term_of l.bound.now) + nodes (term_of l.rest.now)) + 2

abbrev pub decreases-branches::walk_let_pair : goal.decreases-branches::walk_let_pair
decreases-branches::walk_let_pair l = 4 * (nodes (term_of l.subject.now) + nodes (term_of l.rest.now)) + 2

abbrev pub decreases-branches::walk_match_list : goal.decreases-branches::walk_match_list
decreases-branches::walk_match_list l = 4 * (nodes (term_of l.subject.now) + nodes (term_of l.empty.now) + nodes (term_of l.rest.now)) + 2

abbrev pub decreases-branches::walk_match_tree : goal.decreases-branches::walk_match_tree
decreases-branches::walk_match_tree l = 4 * (nodes (term_of l.subject.now) + nodes (term_of l.empty.now) + nodes (term_of l.rest.now)) + 2

abbrev pub decreases-branches::walk_match_option : goal.decreases-branches::walk_match_option
decreases-branches::walk_match_option l = 4 * (nodes (term_of l.subject.now) + nodes (term_of l.empty.now) + nodes (term_of l.rest.now)) + 2
