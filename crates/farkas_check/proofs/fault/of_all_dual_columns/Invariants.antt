use Rattle.std.proofs.Common.{drop}
use Rattle.farkas_check.specs.Checks.{dual_columns}
use Rattle.farkas_check.proofs.Firsts.{Reduces}
use Rattle.farkas_check.proofs.fault.of_all_dual_columns.Given as goal

abbrev pub invariant-loop-unknown : goal.invariant-loop-unknown
invariant-loop-unknown l = Reduces (dual_columns l.unknown (drop l.unknown l.system.weights) l.system.rows l.y l.fn.scale) (dual_columns 0 l.system.weights l.system.rows l.y l.fn.scale)
