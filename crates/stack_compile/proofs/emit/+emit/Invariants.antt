use Rattle.std.proofs.Common.{◌≡◌, ◌+◌, ◌*◌, ◌≤◌, ◌++◌, length, drop, vec_len}
use Rattle.raml_syntax.specs.Read.{terms_of}
use Rattle.raml_syntax.specs.Node.{nodes_of_all, AllOf, NumberFits}
use Rattle.stack_compile.specs.Emit.{arguments_in, size}
use Rattle.stack_compile.proofs.emit.+emit.Given as goal

abbrev pub decreases-emit : goal.decreases-emit
decreases-emit l = 8 * size l.e.now

abbrev pub decreases-emit_one : goal.decreases-emit_one
decreases-emit_one l = 8 * size l.part.now + 1

abbrev pub decreases-emit_two : goal.decreases-emit_two
decreases-emit_two l = 8 * (size l.left.now + size l.right.now) + 1

abbrev pub decreases-emit_node : goal.decreases-emit_node
decreases-emit_node l = 8 * (size l.element.now + size l.left.now + size l.right.now) + 2

abbrev pub decreases-emit_all : goal.decreases-emit_all
decreases-emit_all l = 8 * nodes_of_all (terms_of l.args.now) + 1

abbrev pub decreases-emit_call : goal.decreases-emit_call
decreases-emit_call l = 8 * nodes_of_all (terms_of l.args.now) + 2

abbrev pub decreases-emit_below : goal.decreases-emit_below
decreases-emit_below l = 8 * size l.e.now + 1 + length l.names.now

abbrev pub decreases-emit_bound : goal.decreases-emit_bound
decreases-emit_bound l = 8 * size l.e.now + 5

abbrev pub decreases-emit_let : goal.decreases-emit_let
decreases-emit_let l = 8 * (size l.bound.now + size l.rest.now) + 6

abbrev pub decreases-emit_if : goal.decreases-emit_if
decreases-emit_if l = 8 * (size l.condition.now + size l.yes.now + size l.no.now) + 6

abbrev pub decreases-emit_match : goal.decreases-emit_match
decreases-emit_match l = 8 * (size l.subject.now + size l.empty.now + size l.part.now) + 6

abbrev pub decreases-emit_tick : goal.decreases-emit_tick
decreases-emit_tick l = 8 * size l.rest.now + 1

abbrev pub invariant-emit_all-loop-arg : goal.invariant-emit_all-loop-arg
invariant-emit_all-loop-arg l =
    (l.code.items ++ arguments_in l.env (drop l.arg-index l.args) (vec_len l.code) ≡ l.fn.code.items ++ arguments_in l.env l.args (vec_len l.fn.code))
    × (vec_len l.code + 4 * nodes_of_all (terms_of (drop l.arg-index l.args)) ≤ vec_len l.fn.code + 4 * nodes_of_all (terms_of l.args))
    × (nodes_of_all (terms_of (drop l.arg-index l.args)) ≤ nodes_of_all (terms_of l.args))
    × (AllOf NumberFits (terms_of (drop l.arg-index l.args)) → AllOf NumberFits (terms_of l.args))
