use Rattle.std.proofs.Common.{◌≡◌, drop}
use Rattle.std.specs.Prelude.{option_map, ◌+◌}
use Rattle.call_groups.specs.Read.{ids_of}
use Rattle.rules_spec.specs.Planned.{place_in}
use Rattle.rules_plan.proofs.called.place_in.Given as goal

abbrev pub invariant-loop-at : goal.invariant-loop-at
invariant-loop-at l = option_map (λ k. l.at + k) (place_in (ids_of (drop l.at l.group)) l.fun.0) ≡ place_in (ids_of l.group) l.fun.0
