use Rattle.std.proofs.Common.{◌≡◌, ◌+◌}
use Rattle.rules_spec.specs.Asked.{given}
use Rattle.rules_spec.specs.Told.{entries}
use Rattle.constraint_gen.specs.Numbers.{numbers}
use Rattle.constraint_gen.proofs.told.found.Given as goal

abbrev pub invariant-loop-place : goal.invariant-loop-place
invariant-loop-place l = (l.made.items ≡ entries (given (numbers l.solution) l.fn.next l.place)) × (l.next ≡ l.fn.next + l.place)
