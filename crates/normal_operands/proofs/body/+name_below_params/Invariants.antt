use Rattle.std.proofs.Common.{length}
use Rattle.normal_operands.proofs.body.+name_below_params.Given as goal

abbrev pub decreases-name_below_params : goal.decreases-name_below_params
decreases-name_below_params l = length l.params.now
