use Rattle.std.proofs.Common.{◌≡◌, ◌++◌, map, drop}
use Rattle.raml_syntax.specs.Read.{parameter_of}
use Rattle.explain_count.proofs.copied.copy_params.Given as goal

abbrev pub invariant-loop-param : goal.invariant-loop-param
invariant-loop-param l = map parameter_of l.copies.items ++ map parameter_of (drop l.param-index l.params) ≡ map parameter_of l.params
