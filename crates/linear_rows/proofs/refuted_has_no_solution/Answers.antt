use Rattle.linear_rows.proofs.Duality.{no_solution}
use Rattle.linear_rows.proofs.refuted_has_no_solution.Goals as goal

pub returns : goal.returns
returns c = no_solution
