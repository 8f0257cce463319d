use Rattle.std.proofs.Common.{length}
use Rattle.explain_lines.proofs.lacking.+first_lacking.Given as goal

abbrev pub decreases-first_lacking : goal.decreases-first_lacking
decreases-first_lacking l = length l.group.now
