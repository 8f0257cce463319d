use Rattle.std.proofs.Common.{length}
use Rattle.explain_messages.proofs.needs.Needs.take.Given as goal

abbrev pub decreases-loop-need : goal.decreases-loop-need
decreases-loop-need l = length l.self.stack.items
