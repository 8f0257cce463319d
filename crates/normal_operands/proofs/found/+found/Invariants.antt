use Rattle.std.proofs.Common.{◌+◌, ◌*◌}
use Rattle.raml_syntax.specs.Read.{term_of}
use Rattle.raml_syntax.specs.Node.{nodes}
use Rattle.normal_operands.proofs.found.+found.Given as goal

abbrev pub decreases-found : goal.decreases-found
decreases-found l = 4 * nodes (term_of l.e.now)

abbrev pub decreases-found_pair : goal.decreases-found_pair
decreases-found_pair l = 4 * (nodes (term_of l.first.now) + nodes (term_of l.second.now)) + 3

abbrev pub decreases-found_let : goal.decreases-found_let
decreases-found_let l = 4 * (nodes (term_of l.bound.now) + nodes (term_of l.rest.now)) + 3

abbrev pub decreases-found_let_pair : goal.decreases-found_let_pair
decreases-found_let_pair l = 4 * (nodes (term_of l.bound.now) + nodes (term_of l.rest.now)) + 3

abbrev pub decreases-found_below : goal.decreases-found_below
decreases-found_below l = 4 * nodes (term_of l.e.now) + 1

abbrev pub decreases-found_below_two : goal.decreases-found_below_two
decreases-found_below_two l = 4 * nodes (term_of l.e.now) + 2
