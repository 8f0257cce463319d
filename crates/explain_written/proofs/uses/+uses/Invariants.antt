use Rattle.std.proofs.Common.{◌≤◌, ◌+◌, ◌*◌, drop}
use Rattle.raml_syntax.specs.Read.{term_of, terms_of}
use Rattle.raml_syntax.specs.Node.{nodes, nodes_of_all}
use Rattle.explain_written.proofs.uses.+uses.Given as goal

abbrev pub decreases-is_used_whole : goal.decreases-is_used_whole
decreases-is_used_whole l = 8 * nodes (term_of l.e.now)

abbrev pub decreases-is_used_in_some : goal.decreases-is_used_in_some
decreases-is_used_in_some l = 8 * nodes_of_all (terms_of l.args.now) + 1

abbrev pub decreases-is_used_below : goal.decreases-is_used_below
decreases-is_used_below l = 8 * nodes (term_of l.e.now) + 1

abbrev pub decreases-is_used_where_split : goal.decreases-is_used_where_split
decreases-is_used_where_split l = 8 * (nodes (term_of l.subject.now) + nodes (term_of l.body.now)) + 2

abbrev pub decreases-is_used_in_match : goal.decreases-is_used_in_match
decreases-is_used_in_match l = 8 * (nodes (term_of l.subject.now) + nodes (term_of l.empty.now) + nodes (term_of l.body.now)) + 2

abbrev pub invariant-is_used_in_some-loop-arg : goal.invariant-is_used_in_some-loop-arg
invariant-is_used_in_some-loop-arg l = nodes_of_all (terms_of (drop l.arg-index l.args)) ≤ nodes_of_all (terms_of l.args)
