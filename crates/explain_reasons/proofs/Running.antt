-- Programs whose functions can be run.
use Rattle.std.proofs.Common.{◌≤◌, length, arith}
use Rattle.raml_syntax.specs.Tree.{Text, Prog}
use Rattle.explain_check.specs.Checks.{IsProgramOf}
use Rattle.explain_runs.specs.Measure.{CanRun}

pub can_run : (source : Text) (P : Prog) → IsProgramOf source P → length source ≤ 1048576 → CanRun P
can_run source P is short = record { few_nodes = omega (arith, is.few_nodes, short); parameters = is.parameters; few_parameters = is.limits.parameters }
