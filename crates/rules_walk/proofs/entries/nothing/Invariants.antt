use Rattle.std.proofs.Common.{◌≡◌}
use Rattle.rules_spec.specs.Walk.{nothing}
use Rattle.rules_walk.proofs.entries.nothing.Given as goal

abbrev pub invariant-loop : goal.invariant-loop
invariant-loop g l = l.out.items ≡ nothing g.T.Kind.kind l.counter
