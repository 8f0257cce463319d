use Rattle.infer_spec.proofs.Lines.{lines_tell}
use Rattle.infer_spec.proofs.laws.lines_tell.Goals as goal

pub returns : goal.returns
returns c = lines_tell
