use Rattle.std.proofs.Common.{arith, rules, of_calls, nat_lt}
use Rattle.std.proofs.lemmas.Fn.{always_returns_same}
use Rattle.simplex_rows.proofs.FewFinding.{parted_by, none_next, next}
use Rattle.simplex_rows.proofs.few.FewRow.next_column.Goals as goal

pub returns-then-place-len-clause-next : goal.returns-then-place-len-clause-next
returns-then-place-len-clause-next c =
    let point = c.partition_point-place.ensures.partitioned (λ e. nat_lt e.0 c.args.from) (always_returns_same _ _ _ (λ a r f k. search (rules, of_calls))) in
    let parted = rw c.deref.ensures.value at (point (rw c.deref.ensures.value (parted_by _ c.self.invariant.ascends c.args.from))) in
    rw (← c.self.view_is) (next _ c.self.invariant.ascends c.args.from c.partition_point-place.result c.index.result.now parted (omega arith) c.index.ensures)

pub returns-else-place-len-clause-next : goal.returns-else-place-len-clause-next
returns-else-place-len-clause-next c =
    let point = c.partition_point-place.ensures.partitioned (λ e. nat_lt e.0 c.args.from) (always_returns_same _ _ _ (λ a r f k. search (rules, of_calls))) in
    let parted = rw c.deref.ensures.value at (point (rw c.deref.ensures.value (parted_by _ c.self.invariant.ascends c.args.from))) in
    rw (← c.self.view_is) (none_next _ c.self.invariant.ascends c.args.from c.partition_point-place.result parted (omega arith))
