use Rattle.std.proofs.Common.{◌≡◌, map, [], replicate}
use Rattle.rules_walk.proofs.earlier.none_noted.Given as goal

abbrev pub invariant-loop : goal.invariant-loop
invariant-loop l = map (λ us. us.items) l.made.items ≡ replicate l.counter []
