use Rattle.refusals.specs.Line.{no_names}
use Rattle.refusals.proofs.fault.declared_leaves.Goals as goal

pub returns : goal.returns
returns c = c.told.ensures no_names c.declared_leaves_line-text.ensures
