use Rattle.other_blocks.proofs.Exactly.{one_other_fault}
use Rattle.other_blocks.proofs.laws.one_other_fault.Goals as goal

pub returns : goal.returns
returns c = one_other_fault
