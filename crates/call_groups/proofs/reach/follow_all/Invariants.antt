use Rattle.std.proofs.Common.{◌≡◌}
use Rattle.call_groups.specs.Read.{rows_of}
use Rattle.call_groups.specs.Table.{row_at, through_row}
use Rattle.call_groups.proofs.Lists.{front_mapped}
use Rattle.call_groups.proofs.reach.follow_all.Given as goal

abbrev pub invariant-loop-row : goal.invariant-loop-row
invariant-loop-row l = rows_of l.rows ≡ front_mapped (through_row l.fun (row_at (rows_of l.fn.rows) l.fun)) l.row-index (rows_of l.fn.rows)
