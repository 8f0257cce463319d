use Rattle.refusals.specs.Line.{no_names}
use Rattle.refusals.proofs.Refusing.{data_refusal}
use Rattle.refusals.proofs.fault.data_refusal.Goals as goal

pub returns-in_default : goal.returns-in_default
returns-in_default c = data_refusal c.args.fault c.in_default.not-NoMemory c.told.result (c.told.ensures no_names c.data_line-line.ensures)
