use Rattle.std.proofs.Common.{rules, FitsSigned, pos, slice_index_or, sym, subst}
use Rattle.std.specs.Int.{w128}
use Rattle.std.proofs.lemmas.Int.{to_z-of_z}
use Rattle.bound_infer.proofs.Mapped.{entry_more}
use Rattle.bound_infer.proofs.times.times_entries.Goals as goal

pub loop-index-preserved : goal.loop-index-preserved
loop-index-preserved c =
    let read : FitsSigned w128 (slice_index_or c.args.entries.now c.loop-index.index (0, pos 0)).1 = search rules in
    let e = simp (to_z-of_z w128 _ read) at c.in-Some.ensures in
    let fits : FitsSigned w128 c.in-Some.product = subst (FitsSigned w128) (sym e.1) e.0 in
    let items = simp (to_z-of_z w128 _ fits) at c.in_ok-push-in-Some.ensures.items in
    entry_more c.args.factor.now c.args.entries.now c.loop-index.index c.loop-index.made.items _ _ c.loop-index-test.true c.loop-index.invariant.0 c.loop-index.invariant.1 e.0 e.1 items
