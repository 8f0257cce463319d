use Rattle.raml_syntax.specs.Read.{program_of}
use Rattle.raml_parts.proofs.Refusing.{parse_refuses, untyped_refused}
use Rattle.raml_parts.proofs.source.typed_program.Goals as goal

pub returns-in-Ok-clause-err : goal.returns-in-Ok-clause-err
returns-in-Ok-clause-err c =
    untyped_refused c.args.whose c.args.source.now (program_of c.in-Ok.program) c.in-Ok.ensures.spelled c.checked_program.result c.checked_program.ensures.err

pub returns-in-Err-clause-err : goal.returns-in-Err-clause-err
returns-in-Err-clause-err c = parse_refuses c.args.whose c.args.source.now c.in-Err.fault c.in-Err.ensures.fault c.parse_refusal.result c.parse_refusal.ensures
