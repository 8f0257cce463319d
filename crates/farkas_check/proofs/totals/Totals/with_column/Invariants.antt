use Rattle.std.proofs.Common.{drop}
use Rattle.farkas_check.specs.Totals.{products}
use Rattle.farkas_check.specs.Checks.{column}
use Rattle.farkas_check.proofs.Carrying.{Carries}
use Rattle.farkas_check.proofs.totals.Totals.with_column.Given as goal

abbrev pub invariant-loop-i : goal.invariant-loop-i
invariant-loop-i l = Carries l.fn.self l.totals (products l.y (column l.fn.unknown l.rows)) (products (drop l.i l.y) (column l.fn.unknown (drop l.i l.rows)))
