use Rattle.std.proofs.Common.{◌≡◌, drop}
use Rattle.explain_scopes.specs.Scopes.{bound_to}
use Rattle.explain_scopes.specs.Read.{bounds_of}
use Rattle.explain_scopes.proofs.scope.find_function.Given as goal

abbrev pub invariant-loop-function : goal.invariant-loop-function
invariant-loop-function l = bound_to l.wanted (bounds_of (drop l.function-index l.functions)) ≡ bound_to l.wanted (bounds_of l.functions)
