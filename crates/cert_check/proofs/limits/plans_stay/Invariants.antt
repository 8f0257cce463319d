use Rattle.std.proofs.Common.{All, drop}
use Rattle.cert_check.specs.Limits.{MakeLittle}
use Rattle.cert_check.proofs.limits.plans_stay.Given as goal

abbrev pub invariant-loop-plans : goal.invariant-loop-plans
invariant-loop-plans l = All MakeLittle (drop l.plans-index l.made) → All MakeLittle l.made
