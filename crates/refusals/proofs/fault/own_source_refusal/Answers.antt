use Rattle.refusals.specs.Line.{no_names}
use Rattle.refusals.proofs.fault.own_source_refusal.Goals as goal

pub returns : goal.returns
returns c = c.told.ensures no_names c.source_line-line.ensures
