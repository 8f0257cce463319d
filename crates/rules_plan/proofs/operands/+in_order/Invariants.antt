use Rattle.std.proofs.Common.{◌+◌, ◌*◌, length}
use Rattle.rules_plan.proofs.operands.+in_order.Given as goal

abbrev pub decreases-in_order : goal.decreases-in_order
decreases-in_order l = 2 * length l.context.now

abbrev pub decreases-led_in_order : goal.decreases-led_in_order
decreases-led_in_order l = 2 * length l.context.now + 1
