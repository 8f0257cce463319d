use Rattle.std.proofs.Common.{map}
use Rattle.raml_syntax.specs.Read.{ty_of}
use Rattle.explain_data.proofs.Telling.{answers}
use Rattle.explain_data.proofs.data.check_data.Goals as goal

pub returns : goal.returns
returns c =
    let told = c.in_ok-push_data_fault-in-Err.ensures.told in
    let faulty = answers c.args.bytes.now (map ty_of c.args.types.now) c.in-Err.fault c.in-Err.ensures.refused c.in_ok-push_data_fault-in-Err.ensures.memory in
    (told.0, (c.in-Err.fault, faulty, told.1), told.2)
