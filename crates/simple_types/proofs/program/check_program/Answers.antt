use Rattle.raml_syntax.specs.Read.{program_of}
use Rattle.simple_types.proofs.Agree.{passes}
use Rattle.simple_types.proofs.program.check_program.Goals as goal

pub returns : goal.returns
returns c = passes (program_of c.args.program.now) c.check_names_and_bodies.new.types.nodes.keys c.check_names_and_bodies.result c.check_names_and_bodies.ensures
