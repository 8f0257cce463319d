use Rattle.refusals.specs.Line.{no_names}
use Rattle.refusals.proofs.fault.declared_too_large.Goals as goal

pub returns : goal.returns
returns c = c.told.ensures no_names c.declared_too_large_line-text.ensures
