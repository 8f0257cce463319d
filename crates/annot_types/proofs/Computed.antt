-- The examples hold.
use Rattle.std.proofs.Common.{refl}
use Rattle.annot_types.specs.Example.{Examples}
use Rattle.annot_types.proofs.ThreeTicks.{tick_held, tick_missing, work_held}
use Rattle.annot_types.proofs.Beside.{product_kept, product_lost, option_cell}
use Rattle.annot_types.proofs.Appended.{append_held, cell_missing}

pub examples_hold : Examples
examples_hold = record {
  tick_held = tick_held;
  tick_missing = tick_missing;
  work_held = work_held;
  append_held = append_held;
  cell_missing = cell_missing;
  append_lines = refl;
  product_kept = product_kept;
  product_lost = product_lost;
  option_cell = option_cell;
}
