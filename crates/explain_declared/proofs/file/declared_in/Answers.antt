use Rattle.raml_syntax.specs.Read.{program_of}
use Rattle.bound_file.proofs.Few.{declared_are_few}
use Rattle.explain_declared.proofs.file.declared_in.Goals as goal

pub returns-in-Ok-clause-few : goal.returns-in-Ok-clause-few
returns-in-Ok-clause-few c = declared_are_few (program_of c.args.program.now) c.args.degree c.args.bytes.now c.in-Ok.declared c.in-Ok.ensures.spelled
