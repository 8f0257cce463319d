use Rattle.rules_spec.proofs.Solving.{rows_are_conditions}
use Rattle.rules_spec.proofs.laws.rows_are_conditions.Goals as goal

pub returns : goal.returns
returns c = rows_are_conditions
