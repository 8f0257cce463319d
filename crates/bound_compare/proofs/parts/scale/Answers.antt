use Rattle.std.proofs.Common.{◌+◌, ap, ◌∙◌, arith, drop, get_or}
use Rattle.base_poly.specs.Plain.{entry_count}
use Rattle.base_poly.specs.Read.{index_of, plains_of}
use Rattle.bound_compare.specs.Powers.{factorial}
use Rattle.bound_compare.proofs.Counts.{split_at, scale_next}
use Rattle.bound_compare.proofs.parts.scale.Goals as goal

pub loop-index-preserved : goal.loop-index-preserved
loop-index-preserved c =
    let xs = c.args.indices.now in
    let i = c.loop-index.index-index in
    let d = c.index-item.result in
    let inv = c.loop-index.invariant in
    scale_next (index_of (get_or xs i d)) (plains_of (drop (i + 1) xs)) (plains_of (drop i xs)) c.loop-index.scale _ c.factorial-scale.result
    (split_at xs i d (omega arith))
    (c.factorial-scale.ensures.product ∙ ap factorial (c.entry_count.ensures.count ∙ ap (λ x. entry_count (index_of x)) c.index-item.is))
    inv.0 inv.2 inv.1
