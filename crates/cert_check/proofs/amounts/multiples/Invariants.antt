use Rattle.std.proofs.Common.{◌≡◌, ◌++◌, drop, map}
use Rattle.rules_spec.specs.Capped.{capped_amount}
use Rattle.rules_spec.specs.Carried.{multiple_to}
use Rattle.rules_spec.specs.Shape.{multiples_at}
use Rattle.cert_check.proofs.amounts.multiples.Given as goal

abbrev pub invariant-loop-block : goal.invariant-loop-block
invariant-loop-block l =
    l.made.items ++ map (multiple_to capped_amount) (multiples_at (drop l.block-index l.told)) ≡ map (multiple_to capped_amount) (multiples_at l.told)
