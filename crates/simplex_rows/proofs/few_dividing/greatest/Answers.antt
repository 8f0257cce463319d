use Rattle.std.proofs.Common.{ℕ, ℤ, pos, w64, slice_index_or}
use Rattle.std.proofs.lemmas.Int.{to_z-of_z}
use Rattle.std.proofs.lemmas.List.{drop_more}
use Rattle.simplex_rows.proofs.FewDividing.{greatest_goes_on, first_kept}
use Rattle.simplex_rows.proofs.few_dividing.greatest.Goals as goal

pub loop-entry-preserved : goal.loop-entry-preserved
loop-entry-preserved c =
    let entry : ℕ × ℤ = slice_index_or c.args.numbers.now c.loop-entry.entry-index (0, pos 0) in
    let kept = to_z-of_z w64 c.max-bound.result (record { sfits = c.max-bound.type_inv }) in
    let next = drop_more c.args.numbers.now c.loop-entry.entry-index (0, pos 0) c.loop-entry-test.true in
    let n_kept = first_kept _ _ entry c.loop-entry.invariant.small next in
    let size = rw n_kept at c.abs.ensures.value in
    let size_kept = to_z-of_z w64 c.abs.result (record { sfits = c.abs.type_inv }) in
    rw kept (greatest_goes_on _ _ _ c.max-bound.result _ _ entry c.loop-entry.invariant next c.max-bound.ensures.self_bound (rw (size_kept, size) at c.max-bound.ensures.other_bound))
