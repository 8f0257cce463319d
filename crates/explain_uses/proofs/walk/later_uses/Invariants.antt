use Rattle.std.proofs.Common.{◌≡◌, ◌++◌, map, drop}
use Rattle.raml_syntax.specs.Read.{program_of, function_of}
use Rattle.explain_uses.specs.Uses.{uses_of_each, program_uses}
use Rattle.explain_uses.specs.Read.{uses_of}
use Rattle.explain_uses.proofs.walk.later_uses.Given as goal

abbrev pub invariant-loop-fun : goal.invariant-loop-fun
invariant-loop-fun l =
    uses_of l.found.items ++ uses_of_each (program_of l.program) (map function_of (drop l.fun-index l.program.funs.items))
    ≡ program_uses (program_of l.program)
