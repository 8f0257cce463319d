use Rattle.std.proofs.Common.{◌≡◌, ◌++◌, drop, map}
use Rattle.rules_plan.specs.Read.{body_of}
use Rattle.cert_check.specs.Asking.{all_asks_of}
use Rattle.cert_check.specs.Finds.{asks_by}
use Rattle.cert_check.proofs.rules.all_asked.Given as goal

abbrev pub invariant-loop-body : goal.invariant-loop-body
invariant-loop-body l = all_asks_of l.asks.items ++ asks_by (map body_of (drop l.body-index l.bodies)) ≡ asks_by (map body_of l.bodies)
