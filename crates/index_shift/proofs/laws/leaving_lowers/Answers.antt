use Rattle.index_shift.proofs.Kept.{leaving_lowers}
use Rattle.index_shift.proofs.laws.leaving_lowers.Goals as goal

pub returns : goal.returns
returns c = leaving_lowers
