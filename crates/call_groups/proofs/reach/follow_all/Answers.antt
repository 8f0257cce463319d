use Rattle.std.proofs.Common.{◌<◌, length, slice_index_or, sym, ap, ◌∙◌, arith}
use Rattle.call_groups.specs.Read.{rows_of}
use Rattle.call_groups.specs.Sets.{has}
use Rattle.call_groups.specs.Table.{row_at, through_row}
use Rattle.call_groups.proofs.Lists.{row_read, rows_changed, rows_length, front_mapped_all}
use Rattle.call_groups.proofs.reach.follow_all.Goals as goal

pub loop-row-preserved : goal.loop-row-preserved
loop-row-preserved c =
    let within : c.loop-row.row-index < length c.loop-row.rows = omega arith in
    rows_changed (through_row c.args.fun (row_at (rows_of c.args.rows.now) c.args.fun)) c.args.rows.now c.loop-row.rows c.loop-row.row-index (record { low = 0; high = 0 }) c.follow.new.row
    c.loop-row.invariant within
    (c.follow.ensures ∙ ap (λ m. through_row c.args.fun m (has (slice_index_or c.loop-row.rows c.loop-row.row-index (record { low = 0; high = 0 })))) (sym (row_read c.args.rows.now c.args.fun (record { low = 0; high = 0 }) c.requires)))

pub returns : goal.returns
returns c =
    c.loop-row.invariant
    ∙ front_mapped_all (through_row c.args.fun (row_at (rows_of c.args.rows.now) c.args.fun)) (rows_of c.args.rows.now) c.loop-row.row-index (let l = rows_length c.args.rows.now in omega arith)
