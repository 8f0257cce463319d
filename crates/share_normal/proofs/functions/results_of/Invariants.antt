use Rattle.std.proofs.Common.{◌≡◌, ◌++◌, drop, map}
use Rattle.raml_syntax.specs.Read.{function_of, ty_of}
use Rattle.share_normal.specs.Parts.{result_of}
use Rattle.share_normal.proofs.functions.results_of.Given as goal

abbrev pub invariant-loop-fun : goal.invariant-loop-fun
invariant-loop-fun l = map ty_of l.results.items ++ map result_of (map function_of (drop l.fun-index l.funs)) ≡ map result_of (map function_of l.funs)
