use Rattle.std.proofs.Common.{◌≡◌, ◌+◌, map, drop}
use Rattle.rules_spec.specs.Growth.{each_growth}
use Rattle.rules_walk.specs.Steps.{part_of}
use Rattle.rules_walk.proofs.growing.each_growth.Given as goal

abbrev pub invariant-loop-part : goal.invariant-loop-part
invariant-loop-part l = l.all + each_growth l.budgets (map part_of (drop l.part-index l.parts)) ≡ each_growth l.budgets (map part_of l.parts)
