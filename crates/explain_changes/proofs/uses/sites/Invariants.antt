use Rattle.std.proofs.Common.{◌≡◌, ◌++◌, map, drop}
use Rattle.raml_syntax.specs.Read.{program_of, function_of}
use Rattle.explain_changes.specs.Sites.{sites_of_each, program_sites}
use Rattle.explain_changes.specs.Read.{sites_of}
use Rattle.explain_changes.proofs.uses.sites.Given as goal

abbrev pub invariant-loop-fun : goal.invariant-loop-fun
invariant-loop-fun l =
    sites_of l.found.items ++ sites_of_each (program_of l.program) (map function_of (drop l.fun-index l.program.funs.items))
    ≡ program_sites (program_of l.program)
