use Rattle.std.proofs.Common.{◌≡◌, ◌++◌, drop, map}
use Rattle.rules_walk.specs.Steps.{part_of}
use Rattle.rules_plan.specs.Wide.{part_at, seam_of}
use Rattle.rules_plan.proofs.lets.listed.Given as goal

abbrev pub invariant-loop-seam : goal.invariant-loop-seam
invariant-loop-seam l = map part_of l.found.items ++ map (part_at l.sizes l.d) (map seam_of (drop l.seam-index l.seams)) ≡ map (part_at l.sizes l.d) (map seam_of l.seams)
