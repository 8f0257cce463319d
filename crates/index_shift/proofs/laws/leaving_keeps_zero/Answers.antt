use Rattle.index_shift.proofs.Kept.{leaving_keeps_zero}
use Rattle.index_shift.proofs.laws.leaving_keeps_zero.Goals as goal

pub returns : goal.returns
returns c = leaving_keeps_zero
