use Rattle.std.proofs.Common.{ap, ◌∙◌}
use Rattle.raml_syntax.specs.Read.{program_of}
use Rattle.report_text.specs.Report.{type_lines}
use Rattle.refusals.specs.Ending.{Done, ending_of}
use Rattle.raml_top.proofs.commands.list_types.Goals as goal

pub returns-in-Ok : goal.returns-in-Ok
returns-in-Ok c = (Done, ap ending_of c.done.ensures.status, c.done.ensures.text ∙ c.in-Ok.ensures ∙ ap type_lines (ap program_of c.program.ensures.program))
