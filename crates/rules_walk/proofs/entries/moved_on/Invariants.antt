use Rattle.std.proofs.Common.{◌≡◌, drop}
use Rattle.std.specs.Prelude.{map}
use Rattle.rules_spec.specs.Walk.{all_moved}
use Rattle.rules_walk.specs.Steps.{step_of}
use Rattle.rules_walk.proofs.entries.moved_on.Given as goal

abbrev pub invariant-loop-step : goal.invariant-loop-step
invariant-loop-step g l = all_moved g.T.Kind.kind (map step_of (drop l.step-index l.steps)) l.now.items ≡ all_moved g.T.Kind.kind (map step_of l.steps) l.fn.entries.items
