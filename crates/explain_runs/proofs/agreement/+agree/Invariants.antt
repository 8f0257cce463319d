use Rattle.std.proofs.Common.{length}
use Rattle.explain_runs.proofs.agreement.+agree.Given as goal

abbrev pub decreases-agree : goal.decreases-agree
decreases-agree l = length l.texts.now
