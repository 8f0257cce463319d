use Rattle.std.proofs.Common.{◌≡◌, replicate}
use Rattle.rules_spec.specs.Capped.{capped}
use Rattle.cert_check.proofs.amounts.zeros.Given as goal

abbrev pub invariant-loop : goal.invariant-loop
invariant-loop l = l.made.items ≡ replicate l.counter capped.none
