use Rattle.std.proofs.Common.{length}
use Rattle.explain_reasons.proofs.rounds.+some_unbounded.Given as goal

abbrev pub decreases-some_unbounded : goal.decreases-some_unbounded
decreases-some_unbounded l = length l.group.now
