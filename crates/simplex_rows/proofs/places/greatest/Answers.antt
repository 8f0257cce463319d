use Rattle.std.proofs.Common.{rules, arith, FitsSigned, slice_index_or, pos}
use Rattle.std.proofs.lemmas.Int.{ints, to_z-of_z}
use Rattle.std.specs.Int.{w64}
use Rattle.simplex_rows.proofs.ManyDividing.{bound_more}
use Rattle.simplex_rows.proofs.places.greatest.Goals as goal

pub loop-number-preserved : goal.loop-number-preserved
loop-number-preserved c =
    let h : FitsSigned w64 c.max-most.result = search rules in
    let g : FitsSigned w64 (slice_index_or c.args.numbers.now c.loop-number.number-index (pos 0)) = search rules in
    let k : FitsSigned w64 c.abs.result = search rules in
    let least = c.max-most.ensures.self_bound in
    let other = rw (to_z-of_z w64 _ k, c.abs.ensures.value, to_z-of_z w64 _ g) at c.max-most.ensures.other_bound in
    rw (to_z-of_z w64 _ h) (bound_more _ _ c.max-most.result c.loop-number.number-index c.args.numbers.now c.loop-number.invariant (omega (arith, ints)) (omega (arith, ints)))
