use Rattle.std.proofs.Common.{◌≡◌, ◌≤◌, ◌+◌, drop, map}
use Rattle.rules_spec.specs.Tasks.{sides_count}
use Rattle.rules_plan.specs.Read.{body_of}
use Rattle.constraint_gen.proofs.counts.sides_within.Given as goal

abbrev pub invariant-loop-body : goal.invariant-loop-body
invariant-loop-body l = (l.count ≤ l.most) × (l.count + sides_count (map body_of (drop l.body-index l.bodies)) ≡ sides_count (map body_of l.bodies))
