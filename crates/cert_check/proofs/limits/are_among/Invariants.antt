use Rattle.std.proofs.Common.{drop}
use Rattle.cert_check.specs.Limits.{IsAmong}
use Rattle.cert_check.proofs.limits.are_among.Given as goal

abbrev pub invariant-loop-plans : goal.invariant-loop-plans
invariant-loop-plans l = IsAmong l.group l.budget (drop l.plans-index l.made) → IsAmong l.group l.budget l.made
