use Rattle.raml_syntax.specs.Read.{program_of}
use Rattle.raml_parts.proofs.Refusing.{type_refuses}
use Rattle.raml_parts.proofs.source.checked_program.Goals as goal

pub returns-in-Err-clause-err : goal.returns-in-Err-clause-err
returns-in-Err-clause-err c = type_refuses c.args.whose (program_of c.args.program) c.in-Err.fault c.in-Err.ensures.fault c.type_refusal.result c.type_refusal.ensures
