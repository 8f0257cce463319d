use Rattle.std.proofs.Common.{◌≡◌, ◌++◌, drop}
use Rattle.constraint_gen.specs.Sums.{scaled}
use Rattle.constraint_gen.proofs.sum.multiple.Given as goal

abbrev pub invariant-loop-term : goal.invariant-loop-term
invariant-loop-term l = l.made.items ++ scaled l.factor (drop l.term-index l.terms) ≡ scaled l.factor l.terms
