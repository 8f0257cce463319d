use Rattle.std.proofs.Common.{length}
use Rattle.cost_free.proofs.fill.+piece_at.Given as goal

abbrev pub decreases-piece_at : goal.decreases-piece_at
decreases-piece_at l = length l.places.now
