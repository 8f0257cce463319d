use Rattle.std.proofs.Common.{◌≡◌, ◌+◌, ◌++◌, drop}
use Rattle.rules_spec.specs.Asked.{given_each, sum_of}
use Rattle.constraint_gen.specs.Sums.{unknown}
use Rattle.constraint_gen.specs.Given.{lists}
use Rattle.constraint_gen.proofs.give.given_each.Given as goal

abbrev pub invariant-loop-size : goal.invariant-loop-size
invariant-loop-size l =
    (lists l.made.items ++ given_each unknown l.next (drop l.size-index l.sizes) ≡ given_each unknown l.fn.next l.sizes)
    × (l.next + sum_of (drop l.size-index l.sizes) ≡ l.fn.next + sum_of l.sizes)
