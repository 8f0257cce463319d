use Rattle.std.proofs.Common.{ap, ◌∙◌}
use Rattle.refusals.specs.Ending.{Done, ending_of}
use Rattle.raml_top.proofs.commands.list_code.Goals as goal

pub returns-in-Ok : goal.returns-in-Ok
returns-in-Ok c = (Done, ap ending_of c.done.ensures.status, c.done.ensures.text ∙ c.in-Ok.ensures)
