use Rattle.std.proofs.Common.{◌-◌}
use Rattle.farkas_check.specs.Checks.{refuting_columns}
use Rattle.farkas_check.proofs.Firsts.{Reduces}
use Rattle.farkas_check.proofs.fault.of_all_columns.Given as goal

abbrev pub invariant-loop-unknown : goal.invariant-loop-unknown
invariant-loop-unknown l = Reduces (refuting_columns l.unknown (l.system.unknowns - l.unknown) l.system.rows l.y) (refuting_columns 0 l.system.unknowns l.system.rows l.y)
