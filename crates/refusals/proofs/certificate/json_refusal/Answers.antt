use Rattle.refusals.specs.Line.{no_names}
use Rattle.refusals.proofs.Refusing.{json_refusal}
use Rattle.refusals.proofs.certificate.json_refusal.Goals as goal

pub returns-in_default : goal.returns-in_default
returns-in_default c = json_refusal c.args.fault c.in_default.not-NoMemory c.told.result (c.told.ensures no_names c.json_line-line.ensures)
