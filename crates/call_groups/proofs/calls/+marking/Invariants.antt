use Rattle.std.proofs.Common.{◌≡◌, ◌+◌, ◌*◌, ◌≤◌, drop}
use Rattle.raml_syntax.specs.Read.{program_of, term_of, terms_of}
use Rattle.raml_syntax.specs.Node.{nodes, nodes_of_all}
use Rattle.call_groups.specs.Sets.{has}
use Rattle.call_groups.specs.Table.{marked_in}
use Rattle.call_groups.proofs.calls.+marking.Given as goal

abbrev pub decreases-mark : goal.decreases-mark
decreases-mark l = 2 * nodes (term_of l.e.now)

abbrev pub decreases-mark_all : goal.decreases-mark_all
decreases-mark_all l = 2 * nodes_of_all (terms_of l.args.now) + 1

abbrev pub invariant-mark_all-loop-arg : goal.invariant-mark_all-loop-arg
invariant-mark_all-loop-arg l =
    (marked_in (program_of l.names.program.now) (terms_of (drop l.arg-index l.args)) (has l.row) ≡ marked_in (program_of l.names.program.now) (terms_of l.args) (has l.fn.row))
    × (nodes_of_all (terms_of (drop l.arg-index l.args)) ≤ nodes_of_all (terms_of l.args))
