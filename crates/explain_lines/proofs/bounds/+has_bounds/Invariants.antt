use Rattle.std.proofs.Common.{length}
use Rattle.explain_lines.proofs.bounds.+has_bounds.Given as goal

abbrev pub decreases-has_bounds : goal.decreases-has_bounds
decreases-has_bounds l = length l.lines.now
