use Rattle.std.proofs.Common.{◌≡◌, ◌++◌, drop}
use Rattle.explain_nested.specs.Text.{texts}
use Rattle.explain_nested.proofs.names.value_names.Given as goal

abbrev pub invariant-loop-param : goal.invariant-loop-param
invariant-loop-param l = texts l.names.items ++ texts (drop l.param-index l.params) ≡ texts l.params
