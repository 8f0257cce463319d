use Rattle.std.proofs.Common.{◌++◌, map, drop, arith}
use Rattle.raml_syntax.specs.Read.{function_of}
use Rattle.explain_scopes.specs.Scopes.{names_of_all}
use Rattle.explain_scopes.specs.Read.{bounds_of, occurrences_of}
use Rattle.explain_scopes.proofs.Ends.{no_more, names_done}
use Rattle.explain_scopes.proofs.program.push_functions.Goals as goal

pub returns-else-place-funs : goal.returns-else-place-funs
returns-else-place-funs c =
    let functions = c.args.functions.now in
    let funs = c.args.funs.now in
    let place = c.loop-place.place in
    let whole = occurrences_of c.args.found.now.items ++ names_of_all (bounds_of functions) (bounds_of functions) (map function_of funs) in
    names_done (occurrences_of c.loop-place.found.items) whole (bounds_of functions) (drop place functions) (drop place funs)
    (no_more funs place (omega (arith, c.if-place-funs.false))) c.loop-place.invariant
