use Rattle.std.proofs.Common.{refl}
use Rattle.raml_syntax.specs.Read.{program_of}
use Rattle.simple_types.proofs.Typing.{program_sound}
use Rattle.simple_types.proofs.program.check.Goals as goal

pub invariant_of-result : goal.invariant_of-result
invariant_of-result c = (
  program_sound (program_of c.args.program) c.in_ok-check_program.ensures,
  record { functions = c.requires.few_functions; parameters = c.requires.few_parameters; arguments = c.requires.few_arguments },
)

pub returns-clause-typed : goal.returns-clause-typed
returns-clause-typed c = (refl, program_sound (program_of c.args.program) c.in_ok-check_program.ensures)
