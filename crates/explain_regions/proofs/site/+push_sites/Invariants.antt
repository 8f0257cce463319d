use Rattle.std.proofs.Common.{◌≡◌, ◌+◌, ◌*◌, ◌≤◌, ◌++◌, drop}
use Rattle.raml_syntax.specs.Read.{term_of, terms_of}
use Rattle.raml_syntax.specs.Node.{nodes, nodes_of_all}
use Rattle.explain_regions.specs.Regions.{all_sites}
use Rattle.explain_regions.specs.Read.{sites_of}
use Rattle.explain_regions.proofs.site.+push_sites.Given as goal

abbrev pub decreases-push_sites : goal.decreases-push_sites
decreases-push_sites l = 8 * nodes (term_of l.e.now)

abbrev pub decreases-push_one : goal.decreases-push_one
decreases-push_one l = 8 * nodes (term_of l.part.now) + 1

abbrev pub decreases-push_two : goal.decreases-push_two
decreases-push_two l = 8 * (nodes (term_of l.first.now) + nodes (term_of l.second.now)) + 2

abbrev pub decreases-push_node : goal.decreases-push_node
decreases-push_node l = 8 * (nodes (term_of l.element.now) + nodes (term_of l.left.now) + nodes (term_of l.right.now)) + 3

abbrev pub decreases-push_branches : goal.decreases-push_branches
decreases-push_branches l = 8 * (nodes (term_of l.subject.now) + nodes (term_of l.first.now) + nodes (term_of l.second.now)) + 3

abbrev pub decreases-push_call : goal.decreases-push_call
decreases-push_call l = 8 * nodes_of_all (terms_of l.args.now) + 2

abbrev pub decreases-push_all : goal.decreases-push_all
decreases-push_all l = 8 * nodes_of_all (terms_of l.args.now) + 1

abbrev pub invariant-push_all-loop-arg : goal.invariant-push_all-loop-arg
invariant-push_all-loop-arg l =
    (sites_of l.found.items ++ all_sites l.region.0 (terms_of (drop l.arg-index l.args)) ≡ sites_of l.fn.found.items ++ all_sites l.region.0 (terms_of l.args))
    × (nodes_of_all (terms_of (drop l.arg-index l.args)) ≤ nodes_of_all (terms_of l.args))
