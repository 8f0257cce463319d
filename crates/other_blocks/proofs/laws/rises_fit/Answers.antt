use Rattle.other_blocks.proofs.Rising.{rises_fit}
use Rattle.other_blocks.proofs.laws.rises_fit.Goals as goal

pub returns : goal.returns
returns c = rises_fit
