use Rattle.std.proofs.Common.{◌↔◌, drop}
use Rattle.annot_types.specs.System.{AreRows}
use Rattle.bound_infer.proofs.refuting.are_rows.Given as goal

-- the rest is at rows exactly where the whole is
abbrev pub invariant-loop-row : goal.invariant-loop-row
invariant-loop-row l = AreRows l.count (drop l.row-index l.farkas) ↔ AreRows l.count l.farkas
