use Rattle.std.proofs.Common.{length}
use Rattle.explain_lines.proofs.bounds.+mends_group.Given as goal

abbrev pub decreases-mends_group : goal.decreases-mends_group
decreases-mends_group l = length l.group.now
