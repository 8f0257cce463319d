use Rattle.std.proofs.Common.{arith, pos}
use Rattle.std.proofs.lemmas.List.{get_or_read}
use Rattle.simplex_rows.proofs.ManyListing.{found_next, none_next, not_zero_bits}
use Rattle.simplex_rows.proofs.many.ManyRow.next_column.Goals as goal

pub returns-then-index-ne0-clause-next : goal.returns-then-index-ne0-clause-next
returns-then-index-ne0-clause-next c =
    let same = get_or_read c.self.inside.numbers.items c.loop-place.place c.index.result.now (omega arith) c.index.ensures (pos 0) in
    rw (← c.self.view_is) (found_next c.args.from c.loop-place.place c.self.inside.numbers.items c.loop-place.invariant (rw (← same) (not_zero_bits _ c.if-index-ne0.true)))

pub returns-clause-next : goal.returns-clause-next
returns-clause-next c = rw (← c.self.view_is) (none_next c.args.from c.loop-place.place c.self.inside.numbers.items c.loop-place.invariant (omega arith))
