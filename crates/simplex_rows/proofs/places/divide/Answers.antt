use Rattle.std.proofs.Common.{arith, rules, length, ◌<◌, FitsSigned, slice_index_or, pos, w64}
use Rattle.simplex_rows.proofs.ManyDividing.{multiple_read, divided_next}
use Rattle.simplex_rows.proofs.places.divide.Goals as goal

pub over-requires-clause-multiple : goal.over-requires-clause-multiple
over-requires-clause-multiple c =
    let fits : FitsSigned w64 (slice_index_or c.loop-place.numbers c.loop-place.place (pos 0)) = search rules in
    multiple_read c.args.by c.loop-place.place c.args.numbers.now c.loop-place.numbers c.ranges.by fits c.loop-place.invariant c.requires.multiples

pub loop-place-preserved : goal.loop-place-preserved
loop-place-preserved c =
    let inside : c.loop-place.place < length c.loop-place.numbers = (let t = c.loop-place-test.true in let n = c.loop-place.invariant.count in omega arith) in
    let fits : FitsSigned w64 (slice_index_or c.loop-place.numbers c.loop-place.place (pos 0)) = search rules in
    divided_next c.args.by c.loop-place.place c.args.numbers.now c.loop-place.numbers c.ranges.by fits c.loop-place.invariant c.over.result (record { sfits = c.over.type_inv }) c.over.ensures inside
