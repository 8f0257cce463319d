use Rattle.std.proofs.Common.{◌≡◌, map}
use Rattle.std.specs.List.{range_with_len}
use Rattle.rules_plan.specs.Flat.{flat_size}
use Rattle.rules_plan.proofs.flat.flat_sizes.Given as goal

abbrev pub invariant-loop-d : goal.invariant-loop-d
invariant-loop-d l = l.found.items ≡ map (flat_size l.held) (range_with_len 0 l.d)
