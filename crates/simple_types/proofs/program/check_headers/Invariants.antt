use Rattle.std.proofs.Common.{◌≡◌, map, drop}
use Rattle.raml_syntax.specs.Read.{function_of}
use Rattle.simple_types.specs.Walk.{walk_headers}
use Rattle.simple_types.proofs.program.check_headers.Given as goal

abbrev pub invariant-loop-fun : goal.invariant-loop-fun
invariant-loop-fun l = walk_headers (map function_of (drop l.fun-index l.funs)) ≡ walk_headers (map function_of l.funs)
