use Rattle.std.proofs.Common.{length}
use Rattle.explain_reasons.proofs.rounds.+all_bounded.Given as goal

abbrev pub decreases-all_bounded : goal.decreases-all_bounded
decreases-all_bounded l = length l.group.now
