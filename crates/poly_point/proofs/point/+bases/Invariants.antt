use Rattle.std.proofs.Common.{length}
use Rattle.poly_point.proofs.point.+bases.Given as goal

abbrev pub decreases-bases : goal.decreases-bases
decreases-bases l = length l.indices.now
