use Rattle.std.proofs.Common.{arith}
use Rattle.base_poly.specs.Plain.{alike}
use Rattle.index_shift.proofs.Placed.{at_most}
use Rattle.index_shift.proofs.local.targets.Goals as goal

pub target-requires : goal.target-requires
target-requires c = let low = at_most (alike c.loop-tuple-item.result.0) c.args.places.now.keys in omega (arith, c.place_of.ensures, low, c.requires)
