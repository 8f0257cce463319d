use Rattle.std.proofs.Common.{◌≡◌, None, replicate}
use Rattle.rules_walk.proofs.earlier.none_paying.Given as goal

abbrev pub invariant-loop : goal.invariant-loop
invariant-loop l = l.made.items ≡ replicate l.counter None
