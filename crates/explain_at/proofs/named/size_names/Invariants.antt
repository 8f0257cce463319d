use Rattle.std.proofs.Common.{◌≡◌, ◌++◌, drop}
use Rattle.explain_at.specs.Asked.{all_names}
use Rattle.explain_at.specs.Read.{texts, parameters}
use Rattle.explain_at.proofs.named.size_names.Given as goal

abbrev pub invariant-loop-param : goal.invariant-loop-param
invariant-loop-param l = texts l.names.items ++ all_names (parameters (drop l.param-index l.params)) ≡ all_names (parameters l.params)
