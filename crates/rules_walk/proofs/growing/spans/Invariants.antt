use Rattle.std.proofs.Common.{◌≡◌, ◌*◌, map, drop}
use Rattle.rules_spec.specs.Growth.{spans}
use Rattle.rules_walk.specs.Steps.{step_of}
use Rattle.rules_walk.proofs.growing.spans.Given as goal

abbrev pub invariant-loop-step : goal.invariant-loop-step
invariant-loop-step l = spans (map step_of (drop l.step-index l.steps)) * l.all ≡ spans (map step_of l.steps)
