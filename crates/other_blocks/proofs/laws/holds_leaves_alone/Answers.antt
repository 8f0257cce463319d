use Rattle.other_blocks.proofs.Totals.{holds_leaves_alone}
use Rattle.other_blocks.proofs.laws.holds_leaves_alone.Goals as goal

pub returns : goal.returns
returns c = holds_leaves_alone
