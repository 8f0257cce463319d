use Rattle.std.proofs.Common.{◌+◌, ◌*◌, length}
use Rattle.explain_written.proofs.writing.+writing.Given as goal

-- Each step into an expression goes one deeper; what is behind the sum is the longest way to the next step.
abbrev pub decreases-write_block : goal.decreases-write_block
decreases-write_block l = 16 * l.place.depth + 0

abbrev pub decreases-write_let : goal.decreases-write_let
decreases-write_let l = 16 * l.place.depth + 5

abbrev pub decreases-write_binding : goal.decreases-write_binding
decreases-write_binding l = 16 * l.place.depth + 4

abbrev pub decreases-write_if : goal.decreases-write_if
decreases-write_if l = 16 * l.place.depth + 2

abbrev pub decreases-write_branch : goal.decreases-write_branch
decreases-write_branch l = 16 * l.place.depth + 1

abbrev pub decreases-write_tick : goal.decreases-write_tick
decreases-write_tick l = 16 * l.place.depth + 2

abbrev pub decreases-write_typed : goal.decreases-write_typed
decreases-write_typed l = 16 * l.place.depth + 2

abbrev pub decreases-write_apart : goal.decreases-write_apart
decreases-write_apart l = 16 * l.place.depth + 10

abbrev pub decreases-calls::write_call : goal.decreases-calls::write_call
decreases-calls::write_call l = 16 * l.place.depth + 11

abbrev pub decreases-calls::write_out : goal.decreases-calls::write_out
decreases-calls::write_out l = 16 * l.place.depth + 2

abbrev pub decreases-calls::write_arguments : goal.decreases-calls::write_arguments
decreases-calls::write_arguments l = 16 * l.inner.depth + 1

abbrev pub decreases-calls::write_argument : goal.decreases-calls::write_argument
decreases-calls::write_argument l = 16 * l.place.depth + 4

abbrev pub decreases-operands::write_value : goal.decreases-operands::write_value
decreases-operands::write_value l = 16 * l.place.depth + 3

abbrev pub decreases-operands::write_with_type : goal.decreases-operands::write_with_type
decreases-operands::write_with_type l = 16 * l.place.depth + 2

abbrev pub decreases-operands::write_any : goal.decreases-operands::write_any
decreases-operands::write_any l = 16 * l.place.depth + 1

abbrev pub decreases-operands::write_operand : goal.decreases-operands::write_operand
decreases-operands::write_operand l = 16 * l.place.depth + 0

abbrev pub decreases-operands::write_grouped : goal.decreases-operands::write_grouped
decreases-operands::write_grouped l = 16 * l.place.depth + 1

abbrev pub decreases-operands::write_infix : goal.decreases-operands::write_infix
decreases-operands::write_infix l = 16 * l.place.depth + 1

abbrev pub decreases-operands::write_pair : goal.decreases-operands::write_pair
decreases-operands::write_pair l = 16 * l.place.depth + 2

abbrev pub decreases-operands::write_node : goal.decreases-operands::write_node
decreases-operands::write_node l = 16 * l.place.depth + 2

abbrev pub decreases-operands::write_just : goal.decreases-operands::write_just
decreases-operands::write_just l = 16 * l.place.depth + 2

abbrev pub decreases-operands::write_call_operand : goal.decreases-operands::write_call_operand
decreases-operands::write_call_operand l = 16 * l.place.depth + 3

abbrev pub decreases-operands::write_called : goal.decreases-operands::write_called
decreases-operands::write_called l = 16 * l.place.depth + 2

abbrev pub decreases-operands::write_all : goal.decreases-operands::write_all
decreases-operands::write_all l = 16 * l.place.depth + 2

abbrev pub decreases-ends::write_end : goal.decreases-ends::write_end
decreases-ends::write_end l = 16 * l.place.depth + 10

abbrev pub decreases-ends::write_settled : goal.decreases-ends::write_settled
decreases-ends::write_settled l = 16 * l.place.depth + 9

abbrev pub decreases-taken::write_taken : goal.decreases-taken::write_taken
decreases-taken::write_taken l = 16 * l.place.depth + 5

abbrev pub decreases-taken::write_let_pair : goal.decreases-taken::write_let_pair
decreases-taken::write_let_pair l = 16 * l.place.depth + 4

abbrev pub decreases-taken::write_first : goal.decreases-taken::write_first
decreases-taken::write_first l = 16 * l.place.depth + 4

abbrev pub decreases-taken::write_list_arm : goal.decreases-taken::write_list_arm
decreases-taken::write_list_arm l = 16 * l.behind.depth + 2

abbrev pub decreases-taken::write_tree_arm : goal.decreases-taken::write_tree_arm
decreases-taken::write_tree_arm l = 16 * l.behind.depth + 2

abbrev pub decreases-taken::write_option_arm : goal.decreases-taken::write_option_arm
decreases-taken::write_option_arm l = 16 * l.behind.depth + 2

abbrev pub decreases-parts::write_parts : goal.decreases-parts::write_parts
decreases-parts::write_parts l = 16 * l.place.depth + (5 + length l.parts.now)

abbrev pub decreases-settling::write_known : goal.decreases-settling::write_known
decreases-settling::write_known l = 16 * l.place.depth + 5 + 4

abbrev pub decreases-settling::write_known_parts : goal.decreases-settling::write_known_parts
decreases-settling::write_known_parts l = 16 * l.place.depth + (5 + length l.parts.now)

abbrev pub decreases-settling::write_part : goal.decreases-settling::write_part
decreases-settling::write_part l = 16 * l.place.depth + 5
