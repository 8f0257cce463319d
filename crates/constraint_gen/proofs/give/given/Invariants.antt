use Rattle.std.proofs.Common.{◌≡◌, ◌+◌}
use Rattle.rules_spec.specs.Asked.{given}
use Rattle.constraint_gen.specs.Sums.{unknown}
use Rattle.constraint_gen.proofs.give.given.Given as goal

abbrev pub invariant-loop : goal.invariant-loop
invariant-loop l = (l.made.items ≡ given unknown l.fn.next l.counter) × (l.next ≡ l.fn.next + l.counter)
