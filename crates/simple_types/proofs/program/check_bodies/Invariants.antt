use Rattle.std.proofs.Common.{◌≡◌, map, drop}
use Rattle.raml_syntax.specs.Read.{function_of}
use Rattle.simple_types.specs.Numbered.{walk_bodies}
use Rattle.simple_types.specs.Scope.{sigs_of}
use Rattle.simple_types.proofs.program.check_bodies.Given as goal

abbrev pub invariant-loop-fun : goal.invariant-loop-fun
invariant-loop-fun l =
    walk_bodies (sigs_of l.functions) l.types.nodes.keys (map function_of (drop l.fun-index l.funs)) ≡ walk_bodies (sigs_of l.functions) l.fn.types.nodes.keys (map function_of l.funs)
