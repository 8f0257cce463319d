use Rattle.index_shift.proofs.Kept.{sharing_keeps}
use Rattle.index_shift.proofs.laws.sharing_keeps.Goals as goal

pub returns : goal.returns
returns c = sharing_keeps
