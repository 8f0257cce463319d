use Rattle.std.proofs.Common.{◌≡◌, ◌++◌, drop}
use Rattle.explain_sizes.specs.Read.{all_open}
use Rattle.explain_at.specs.Asked.{all_sizes}
use Rattle.explain_at.specs.Read.{all_given, parameters}
use Rattle.explain_at.proofs.sizes.open_sizes.Given as goal

abbrev pub invariant-loop-param : goal.invariant-loop-param
invariant-loop-param l =
    all_open l.sizes.items ++ all_sizes (all_given l.given) (parameters (drop l.param-index l.params)) ≡ all_sizes (all_given l.given) (parameters l.params)
