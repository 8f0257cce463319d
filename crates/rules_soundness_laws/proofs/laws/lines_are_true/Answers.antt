use Rattle.rules_soundness_laws.proofs.Lines.{lines_are_true}
use Rattle.rules_soundness_laws.proofs.laws.lines_are_true.Goals as goal

pub returns : goal.returns
returns c = lines_are_true
