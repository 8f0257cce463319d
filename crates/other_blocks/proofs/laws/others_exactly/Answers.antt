use Rattle.other_blocks.proofs.Exactly.{others_exactly}
use Rattle.other_blocks.proofs.laws.others_exactly.Goals as goal

pub returns : goal.returns
returns c = others_exactly
