use Rattle.std.proofs.Common.{◌≡◌, ◌+◌, ◌*◌, ◌≤◌, ◌++◌, length, drop}
use Rattle.raml_syntax.specs.Read.{term_of, terms_of}
use Rattle.raml_syntax.specs.Node.{nodes, nodes_of_all}
use Rattle.explain_rounds.specs.Read.{calls_of, all_calls_by}
use Rattle.explain_rounds.proofs.calls.+calls.Given as goal

abbrev pub decreases-find_calls : goal.decreases-find_calls
decreases-find_calls l = 8 * nodes (term_of l.e.now)

abbrev pub decreases-find_two : goal.decreases-find_two
decreases-find_two l = 8 * (nodes (term_of l.first.now) + nodes (term_of l.second.now)) + 1

abbrev pub decreases-find_three : goal.decreases-find_three
decreases-find_three l = 8 * (nodes (term_of l.first.now) + nodes (term_of l.second.now) + nodes (term_of l.third.now)) + 2

abbrev pub decreases-find_all : goal.decreases-find_all
decreases-find_all l = 8 * nodes_of_all (terms_of l.args.now) + 1

abbrev pub decreases-find_below : goal.decreases-find_below
decreases-find_below l = 8 * nodes (term_of l.e.now) + 1 + length l.names.now

abbrev pub decreases-find_let : goal.decreases-find_let
decreases-find_let l = 8 * (nodes (term_of l.bound.now) + nodes (term_of l.rest.now)) + 2 + length l.names.now

abbrev pub decreases-find_match : goal.decreases-find_match
decreases-find_match l = 8 * (nodes (term_of l.subject.now) + nodes (term_of l.empty.now) + nodes (term_of l.rest.now)) + 2 + length l.names.now

abbrev pub invariant-find_all-loop-arg : goal.invariant-find_all-loop-arg
invariant-find_all-loop-arg l =
    (calls_of l.found.items ++ all_calls_by l.env (terms_of (drop l.arg-index l.args)) ≡ calls_of l.fn.found.items ++ all_calls_by l.env (terms_of l.args))
    × (nodes_of_all (terms_of (drop l.arg-index l.args)) ≤ nodes_of_all (terms_of l.args))
