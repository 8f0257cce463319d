use Rattle.std.proofs.Common.{◌≡◌, ◌+◌, drop}
use Rattle.normal_spec.specs.Context.{place}
use Rattle.normal_spec.specs.Read.{parameters_of}
use Rattle.rules_plan.proofs.context.place.Given as goal

abbrev pub invariant-loop-at : goal.invariant-loop-at
invariant-loop-at l = l.at + place l.x (parameters_of (drop l.at l.context)) ≡ place l.x (parameters_of l.context)
