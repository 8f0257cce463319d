use Rattle.std.proofs.Common.{length}
use Rattle.explain_why.proofs.call.+push_refused.Given as goal

abbrev pub decreases-push_refused : goal.decreases-push_refused
decreases-push_refused l = length l.refused.now
