use Rattle.std.proofs.Common.{◌≡◌, ◌++◌, drop, map}
use Rattle.rules_plan.specs.Read.{body_of}
use Rattle.cert_check.specs.At.{sizes_of}
use Rattle.cert_check.proofs.planned.sizes.Given as goal

abbrev pub invariant-loop-body : goal.invariant-loop-body
invariant-loop-body l = l.sizes.items ++ sizes_of (map body_of (drop l.body-index l.bodies)) ≡ sizes_of (map body_of l.bodies)
