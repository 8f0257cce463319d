use Rattle.std.proofs.Common.{◌≡◌, map}
use Rattle.std.specs.List.{range_with_len}
use Rattle.rules_plan.specs.Down.{many_low}
use Rattle.rules_plan.proofs.tuples.counts.Given as goal

abbrev pub invariant-loop-d : goal.invariant-loop-d
invariant-loop-d l = l.found.items ≡ map (many_low l.degrees) (range_with_len 0 l.d)
