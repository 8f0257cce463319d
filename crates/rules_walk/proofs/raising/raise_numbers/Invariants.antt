use Rattle.std.specs.Prelude.{◌*◌}
use Rattle.rules_spec.specs.Capped.{cap}
use Rattle.rules_walk.proofs.Rising.{ChangedTo}
use Rattle.rules_walk.proofs.raising.raise_numbers.Given as goal

abbrev pub invariant-loop-place : goal.invariant-loop-place
invariant-loop-place l = ChangedTo (λ n. n) (λ n. cap (n * l.factor)) l.place l.initial.numbers.items l.numbers.items
