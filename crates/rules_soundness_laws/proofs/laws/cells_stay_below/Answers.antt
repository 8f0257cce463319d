use Rattle.rules_soundness_laws.proofs.Source.{cells_stay_below}
use Rattle.rules_soundness_laws.proofs.laws.cells_stay_below.Goals as goal

pub returns : goal.returns
returns c = cells_stay_below
