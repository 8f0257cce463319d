use Rattle.std.proofs.Common.{◌≡◌, ◌++◌, map, drop}
use Rattle.raml_syntax.specs.Read.{function_of}
use Rattle.price_file.specs.Read.{function_applied_by}
use Rattle.price_file.proofs.functions.apply_functions.Given as goal

abbrev pub invariant-loop-fun : goal.invariant-loop-fun
invariant-loop-fun l =
    map function_of l.made.items ++ map (function_applied_by l.maker) (map function_of (drop l.fun-index l.funs)) ≡ map (function_applied_by l.maker) (map function_of l.funs)
