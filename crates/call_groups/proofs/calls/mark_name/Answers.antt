use Rattle.std.proofs.Common.{◌<◌, length, sym, arith}
use Rattle.raml_syntax.specs.Read.{program_of}
use Rattle.call_groups.proofs.Marks.{place_low}
use Rattle.call_groups.proofs.calls.mark_name.Goals as goal

pub insert-requires : goal.insert-requires
insert-requires c =
    let low : c.in-Some.fun.0 < length (program_of c.args.names.now.program.now) = place_low c.text.result.now (program_of c.args.names.now.program.now) c.in-Some.fun.0 (sym c.in-Some.ensures) in
    omega (arith, low, c.requires)
