use Rattle.std.proofs.Common.{rules, FitsSigned, slice_index_or, pos, w64}
use Rattle.simplex_rows.proofs.FewDividing.{divides_next, divides_all}
use Rattle.simplex_rows.proofs.few_dividing.divide_each.Goals as goal

pub loop-place-preserved : goal.loop-place-preserved
loop-place-preserved c =
    let entry = slice_index_or c.loop-place.numbers c.loop-place.place (0, pos 0) in
    let fits : FitsSigned w64 entry.1 = search rules in
    divides_next c.loop-place.place c.args.by c.args.numbers.now c.loop-place.numbers c.ranges.by c.requires fits c.loop-place-test.true c.loop-place.invariant

pub returns : goal.returns
returns c = divides_all c.loop-place.place c.args.by c.args.numbers.now c.loop-place.numbers c.ranges.by c.loop-place-test.false c.loop-place.invariant
