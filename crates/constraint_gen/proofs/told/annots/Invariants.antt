use Rattle.std.proofs.Common.{◌≡◌, ◌+◌, ◌++◌, drop, map}
use Rattle.rules_spec.specs.Asked.{given_each, sum_of}
use Rattle.rules_spec.specs.Told.{entries}
use Rattle.constraint_gen.specs.Numbers.{numbers}
use Rattle.constraint_gen.proofs.told.annots.Given as goal

abbrev pub invariant-loop-size : goal.invariant-loop-size
invariant-loop-size l =
    (l.made.items ++ map entries (given_each (numbers l.solution) l.next (drop l.size-index l.sizes)) ≡ map entries (given_each (numbers l.solution) l.fn.next l.sizes))
    × (l.next + sum_of (drop l.size-index l.sizes) ≡ l.fn.next + sum_of l.sizes)
