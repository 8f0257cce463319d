use Rattle.std.proofs.Common.{◌∙◌}
use Rattle.raml_syntax.specs.Read.{program_of}
use Rattle.normal_operands.proofs.Places.{found_at, found_nowhere}
use Rattle.normal_operands.proofs.functions.function_named.Goals as goal

pub returns-in-Some : goal.returns-in-Some
returns-in-Some c = c.function_at.ensures ∙ found_at c.args.name.now (program_of c.args.names.now.program.now) _ c.in-Some.ensures

pub returns-in-None : goal.returns-in-None
returns-in-None c = found_nowhere c.args.name.now (program_of c.args.names.now.program.now) c.in-None.ensures
