use Rattle.std.proofs.Common.{◌≡◌, ◌++◌, drop, string_bytes}
use Rattle.refusal_text.specs.Places.{steps_text}
use Rattle.refusal_text.proofs.places.push_steps.Given as goal

abbrev pub invariant-loop-step : goal.invariant-loop-step
invariant-loop-step l = string_bytes l.line ++ steps_text (drop l.step-index l.steps) ≡ string_bytes l.initial.line ++ steps_text l.steps
