use Rattle.refusals.specs.Line.{no_names}
use Rattle.refusals.proofs.fault.bounds_refusal.Goals as goal

pub returns : goal.returns
returns c = c.told.ensures no_names c.fault_line-line.ensures
