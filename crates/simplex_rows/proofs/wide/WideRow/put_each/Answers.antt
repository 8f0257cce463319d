use Rattle.simplex_rows.proofs.Appending.{next_before, put_next}
use Rattle.simplex_rows.proofs.wide.WideRow.put_each.Goals as goal

pub put-requires : goal.put-requires
put-requires c = next_before _ _ _ c.loop-column.invariant c.in-Some.column c.in-Some.number _ c.in-Some.ensures.some

pub loop-column-preserved : goal.loop-column-preserved
loop-column-preserved c = put_next _ _ _ c.loop-column.invariant c.in-Some.column c.in-Some.number _ c.in-Some.ensures.some c.put.new.self c.in_ok-put.ensures.added
