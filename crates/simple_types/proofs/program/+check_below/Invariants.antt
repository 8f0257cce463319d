use Rattle.std.proofs.Common.{length}
use Rattle.simple_types.proofs.program.+check_below.Given as goal

abbrev pub decreases-check_below : goal.decreases-check_below
decreases-check_below l = length l.params.now
