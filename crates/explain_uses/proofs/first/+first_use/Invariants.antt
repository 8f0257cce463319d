use Rattle.std.proofs.Common.{◌+◌, ◌*◌}
use Rattle.raml_syntax.specs.Read.{term_of, terms_of}
use Rattle.raml_syntax.specs.Node.{nodes, nodes_of_all}
use Rattle.explain_uses.proofs.first.+first_use.Given as goal

abbrev pub decreases-first_use : goal.decreases-first_use
decreases-first_use l = 2 * nodes (term_of l.e.now)

abbrev pub decreases-first_of_match : goal.decreases-first_of_match
decreases-first_of_match l = 2 * (nodes (term_of l.subject.now) + nodes (term_of l.empty.now)) + 1

abbrev pub decreases-first_use_of_all : goal.decreases-first_use_of_all
decreases-first_use_of_all l = 2 * nodes_of_all (terms_of l.args.now) + 1
