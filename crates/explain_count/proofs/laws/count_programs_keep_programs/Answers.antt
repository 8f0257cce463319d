use Rattle.explain_count.proofs.Kept.{keeps_programs}
use Rattle.explain_count.proofs.laws.count_programs_keep_programs.Goals as goal

pub returns : goal.returns
returns c = keeps_programs
