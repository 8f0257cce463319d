use Rattle.std.proofs.Common.{◌+◌, ◌*◌, length}
use Rattle.raml_syntax.specs.Read.{term_of, terms_of}
use Rattle.raml_syntax.specs.Node.{nodes, nodes_of_all}
use Rattle.explain_rounds.proofs.twice.+twice.Given as goal

abbrev pub decreases-find : goal.decreases-find
decreases-find l = 8 * nodes (term_of l.e.now)

abbrev pub decreases-find_both : goal.decreases-find_both
decreases-find_both l = 8 * (nodes (term_of l.first.now) + nodes (term_of l.second.now)) + 1

abbrev pub decreases-find_three : goal.decreases-find_three
decreases-find_three l = 8 * (nodes (term_of l.first.now) + nodes (term_of l.second.now) + nodes (term_of l.third.now)) + 2

abbrev pub decreases-find_either : goal.decreases-find_either
decreases-find_either l = 8 * (nodes (term_of l.first.now) + nodes (term_of l.second.now)) + 1

abbrev pub decreases-find_branches : goal.decreases-find_branches
decreases-find_branches l = 8 * (nodes (term_of l.condition.now) + nodes (term_of l.first.now) + nodes (term_of l.second.now)) + 2

abbrev pub decreases-find_all : goal.decreases-find_all
decreases-find_all l = 8 * nodes_of_all (terms_of l.args.now) + 1

abbrev pub decreases-find_arguments : goal.decreases-find_arguments
decreases-find_arguments l = 8 * nodes_of_all (terms_of l.args.now) + 2

abbrev pub decreases-find_below : goal.decreases-find_below
decreases-find_below l = 8 * nodes (term_of l.e.now) + 1 + length l.names.now

abbrev pub decreases-find_let : goal.decreases-find_let
decreases-find_let l = 8 * (nodes (term_of l.bound.now) + nodes (term_of l.rest.now)) + 2 + length l.names.now

abbrev pub decreases-find_cases : goal.decreases-find_cases
decreases-find_cases l = 8 * (nodes (term_of l.empty.now) + nodes (term_of l.rest.now)) + 2 + length l.names.now

abbrev pub decreases-find_match : goal.decreases-find_match
decreases-find_match l = 8 * (nodes (term_of l.subject.now) + nodes (term_of l.empty.now) + nodes (term_of l.rest.now)) + 3 + length l.names.now
