use Rattle.std.proofs.Common.{rules, arith, FitsSigned, pos}
use Rattle.std.proofs.lemmas.List.{get_or_read}
use Rattle.std.specs.Int.{w64}
use Rattle.simplex_rows.proofs.ManyListing.{columns_more, columns_same, zero_bits, not_zero_bits}
use Rattle.simplex_rows.proofs.many.ManyRow.columns.Goals.{then-index-ne0+in_ok-push, else-index-ne0}
use Rattle.simplex_rows.proofs.many.ManyRow.columns.Goals as goal

pub loop-place-preserved : goal.loop-place-preserved
loop-place-preserved c =
    let f : FitsSigned w64 c.index.result.now = search rules in
    let same = get_or_read c.self.inside.numbers.items c.loop-place.place c.index.result.now (omega arith) c.index.ensures (pos 0) in
    elim c.if-index-ne0.branch [
      | then-index-ne0+in_ok-push w ↦
          rw (w.all-is, w.in_ok-push.ensures.items) (columns_more c.loop-place.place c.self.inside.numbers.items c.loop-place.all.items (omega arith) (rw (← same) (not_zero_bits _ w.if-index-ne0.true)) c.loop-place.invariant)
      | else-index-ne0 w ↦ rw w.all-is (columns_same c.loop-place.place c.self.inside.numbers.items c.loop-place.all.items (omega arith) (rw (← same) (zero_bits _ f w.if-index-ne0.false)) c.loop-place.invariant)
    ]
