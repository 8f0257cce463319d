use Rattle.refusals.specs.Line.{no_names}
use Rattle.refusals.proofs.fault.other_source_refusal.Goals as goal

pub returns : goal.returns
returns c = c.told.ensures no_names c.other_source_line-line.ensures
