use Rattle.std.proofs.Common.{◌≡◌, ◌+◌, ◌++◌, drop, map}
use Rattle.rules_spec.specs.Tasks.{sides_count, sides_given}
use Rattle.rules_walk.specs.Read.{sides_of}
use Rattle.rules_plan.specs.Read.{body_of}
use Rattle.constraint_gen.specs.Sums.{unknown}
use Rattle.constraint_gen.proofs.give.sides.Given as goal

abbrev pub invariant-loop-body : goal.invariant-loop-body
invariant-loop-body l =
    (map sides_of l.made.items ++ sides_given unknown l.next (map body_of (drop l.body-index l.bodies)) ≡ sides_given unknown l.fn.next (map body_of l.bodies))
    × (l.next + sides_count (map body_of (drop l.body-index l.bodies)) ≡ l.fn.next + sides_count (map body_of l.bodies))
