use Rattle.std.proofs.Common.{length}
use Rattle.explain_profile.proofs.columns.+push_cells.Given as goal

abbrev pub decreases-push_cells : goal.decreases-push_cells
decreases-push_cells l = length l.cells.now
