use Rattle.explain_changes.proofs.Keep.{rebuilding_keeps}
use Rattle.explain_changes.proofs.laws.rebuilding_keeps.Goals as goal

pub returns : goal.returns
returns c = rebuilding_keeps
