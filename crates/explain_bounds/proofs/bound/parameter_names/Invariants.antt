use Rattle.std.proofs.Common.{◌≡◌, ◌++◌, drop}
use Rattle.explain_algebra.specs.Algebra.{texts}
use Rattle.explain_bounds.specs.Read.{names_in}
use Rattle.explain_bounds.proofs.bound.parameter_names.Given as goal

abbrev pub invariant-loop-param : goal.invariant-loop-param
invariant-loop-param l = texts l.names.items ++ names_in (drop l.param-index l.params) ≡ names_in l.params
