use Rattle.std.proofs.Common.{refl}
use Rattle.refusals.specs.Ending.{Done}
use Rattle.raml_top.proofs.commands.certificate_report.Goals as goal

pub returns-in-Ok : goal.returns-in-Ok
returns-in-Ok c = (Done, refl, c.in-Ok.ensures)
