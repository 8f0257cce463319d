use Rattle.std.proofs.Common.{length}
use Rattle.explain_why.proofs.groups.+push_groups.Given as goal

abbrev pub decreases-push_groups : goal.decreases-push_groups
decreases-push_groups l = length l.reasons.now
