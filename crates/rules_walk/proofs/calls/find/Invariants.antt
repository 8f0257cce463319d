use Rattle.std.proofs.Common.{◌≡◌, drop}
use Rattle.rules_walk.specs.Read.{signed}
use Rattle.rules_walk.proofs.calls.find.Given as goal

abbrev pub invariant-loop-signed : goal.invariant-loop-signed
invariant-loop-signed l = signed l.function (drop l.signed-index l.signatures) ≡ signed l.function l.signatures
