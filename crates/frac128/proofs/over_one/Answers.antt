use Rattle.std.proofs.lemmas.Int.{to_z-of_z}
use Rattle.std.specs.Int.{w128}
use Rattle.frac128.proofs.Cancelling.{over_one}
use Rattle.frac128.proofs.over_one.Goals as goal

pub invariant_of-result : goal.invariant_of-result
invariant_of-result c = simp (to_z-of_z w128 _ c.ranges.num) (record { lowest = over_one _ c.requires })
