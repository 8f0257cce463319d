use Rattle.std.proofs.Common.{◌≡◌, ◌<◌, length, slice_get, Some, sym, subst, arith}
use Rattle.std.proofs.lemmas.List.{length-map}
use Rattle.raml_syntax.specs.Read.{program_of, function_of}
use Rattle.raml_syntax.specs.declared.program.Program.{Program}
use Rattle.explain_profile.proofs.Found.{at_mapped}
use Rattle.explain_profile.proofs.runs.fun_at.Goals as goal

pub index-requires : goal.index-requires
index-requires c =
    let program = c.program.result.now in
    let below = subst (λ (p : Program). c.args.fun.0 < length (program_of p)) (sym c.program.ensures.program) c.requires in
    omega (arith, below, length-map program.funs.items function_of)

pub returns : goal.returns
returns c =
    let program = c.program.result.now in
    let below = subst (λ (p : Program). c.args.fun.0 < length (program_of p)) (sym c.program.ensures.program) c.requires in
    let low : c.args.fun.0 < length program.funs.items = omega (arith, below, length-map program.funs.items function_of) in
    subst (λ (p : Program). slice_get (program_of p) c.args.fun.0 ≡ Some (function_of c.index.result.now)) c.program.ensures.program
    (at_mapped function_of program.funs.items c.args.fun.0 c.index.result.now c.index.ensures low)
