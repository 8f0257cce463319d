use Rattle.std.proofs.Common.{◌≡◌, drop, map}
use Rattle.raml_syntax.specs.Read.{function_of}
use Rattle.explain_counts.specs.Lines.{first_begun}
use Rattle.explain_counts.proofs.line.first_begun.Given as goal

abbrev pub invariant-loop-fun : goal.invariant-loop-fun
invariant-loop-fun l = first_begun l.source l.part (map function_of (drop l.fun-index l.funs)) ≡ first_begun l.source l.part (map function_of l.funs)
