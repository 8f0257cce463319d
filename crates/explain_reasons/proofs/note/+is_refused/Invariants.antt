use Rattle.std.proofs.Common.{length}
use Rattle.explain_reasons.proofs.note.+is_refused.Given as goal

abbrev pub decreases-is_refused : goal.decreases-is_refused
decreases-is_refused l = length l.refused.now
