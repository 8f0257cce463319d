use Rattle.std.proofs.Common.{length}
use Rattle.explain_scopes.proofs.program.+push_body.Given as goal

abbrev pub decreases-push_body : goal.decreases-push_body
decreases-push_body l = length l.params.now
