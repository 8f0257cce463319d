use Rattle.std.proofs.Common.{◌≡◌, ◌++◌, drop, map}
use Rattle.rules_spec.specs.Capped.{capped_amount}
use Rattle.rules_spec.specs.Shape.{each_amounts}
use Rattle.cert_check.proofs.amounts.each_result.Given as goal

abbrev pub invariant-loop-size : goal.invariant-loop-size
invariant-loop-size l =
    map (λ q. q.items) l.made.items ++ map (map capped_amount) (each_amounts (drop l.size-index l.sizes) l.results)
    ≡ map (map capped_amount) (each_amounts l.sizes l.fn.results)
