use Rattle.price_file.proofs.Kept.{keeps_programs}
use Rattle.price_file.proofs.laws.applied_keeps_programs.Goals as goal

pub returns : goal.returns
returns c = keeps_programs
