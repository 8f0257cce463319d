use Rattle.std.proofs.Common.{◌≡◌, ◌++◌, map, drop}
use Rattle.rules_walk.specs.Steps.{part_of}
use Rattle.rules_walk.specs.Asks.{sizes_of}
use Rattle.rules_walk.proofs.ask.result_sizes.Given as goal

abbrev pub invariant-loop-part : goal.invariant-loop-part
invariant-loop-part l = l.sizes.items ++ sizes_of (map part_of (drop l.part-index l.parts)) ≡ sizes_of (map part_of l.parts)
