use Rattle.std.proofs.Common.{length}
use Rattle.explain_rounds.proofs.calls.+find_body.Given as goal

abbrev pub decreases-find_body : goal.decreases-find_body
decreases-find_body l = length l.params.now
