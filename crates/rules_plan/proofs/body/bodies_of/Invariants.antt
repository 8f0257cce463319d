use Rattle.std.proofs.Common.{take}
use Rattle.call_groups.specs.Read.{ids_of}
use Rattle.rules_plan.specs.Given.{given_of}
use Rattle.rules_plan.specs.Read.{AreBodies}
use Rattle.rules_plan.proofs.body.bodies_of.Given as goal

abbrev pub invariant-loop-place : goal.invariant-loop-place
invariant-loop-place l = AreBodies (given_of l.env) (ids_of (take l.place l.env.group.now)) l.made.items
