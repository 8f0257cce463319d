use Rattle.std.proofs.Common.{length}
use Rattle.explain_reasons.proofs.calls.+add_of_kind.Given as goal

abbrev pub decreases-add_of_kind : goal.decreases-add_of_kind
decreases-add_of_kind l = length l.calls.now
