use Rattle.std.proofs.Common.{◌≡◌, ◌+◌, map, drop}
use Rattle.rules_spec.specs.Growth.{join_spans}
use Rattle.rules_walk.specs.Steps.{part_of}
use Rattle.rules_walk.proofs.growing.join_spans.Given as goal

abbrev pub invariant-loop-part : goal.invariant-loop-part
invariant-loop-part l = l.all + join_spans (map part_of (drop l.part-index l.parts)) ≡ join_spans (map part_of l.parts)
