use Rattle.std.proofs.Common.{rules, FitsSigned, pos, slice_index_or}
use Rattle.std.specs.Int.{w128}
use Rattle.std.proofs.lemmas.Int.{to_z-of_z}
use Rattle.bound_infer.proofs.Listing.{one_more}
use Rattle.bound_infer.proofs.vector.listed.Goals as goal

pub loop-place-preserved : goal.loop-place-preserved
loop-place-preserved c =
    let fits : FitsSigned w128 (slice_index_or c.args.vector.now c.loop-place.place (pos 0)) = search rules in
    let added = simp (to_z-of_z w128 _ fits) at c.in_ok-add.ensures in
    λ ys e. one_more ys c.args.vector.now c.loop-place.place (pos 0) c.loop-place.entries.items _ c.loop-place-test.true e added (c.loop-place.invariant ys e)
