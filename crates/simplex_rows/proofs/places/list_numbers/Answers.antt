use Rattle.std.proofs.Common.{rules, FitsSigned, slice_index_or, pos}
use Rattle.std.proofs.lemmas.Int.{to_z-of_z}
use Rattle.std.specs.Int.{w64}
use Rattle.simplex_rows.proofs.ManyListing.{listing_more, listing_same, zero_bits, not_zero_bits}
use Rattle.simplex_rows.proofs.places.list_numbers.Goals.{then-number-ne0+in_ok-push, else-number-ne0}
use Rattle.simplex_rows.proofs.places.list_numbers.Goals as goal

pub loop-place-preserved : goal.loop-place-preserved
loop-place-preserved c =
    let f : FitsSigned w64 (slice_index_or c.args.numbers.now c.loop-place.place (pos 0)) = search rules in
    elim c.if-number-ne0.branch [
      | then-number-ne0+in_ok-push w ↦
          let more = listing_more c.loop-place.place c.args.numbers.now c.loop-place.all.items c.loop-place-test.true (not_zero_bits _ w.if-number-ne0.true) c.loop-place.invariant in
          rw (w.all-is, w.in_ok-push.ensures.items, to_z-of_z w64 _ f) more
      | else-number-ne0 w ↦ rw w.all-is (listing_same c.loop-place.place c.args.numbers.now c.loop-place.all.items c.loop-place-test.true (zero_bits _ f w.if-number-ne0.false) c.loop-place.invariant)
    ]
