use Rattle.std.proofs.Common.{length}
use Rattle.explain_why.proofs.chosen.+leads_to.Given as goal

abbrev pub decreases-leads_to : goal.decreases-leads_to
decreases-leads_to l = length l.left.now
