use Rattle.std.proofs.Common.{◌≡◌, arith, ap, ◌∙◌, ◌++◌, ◌*ℤ◌, ◌-ℤ◌, ◌<ℤ◌, [], ℕ, ℤ, pos, drop, slice_index_or, to_z, of_z, w64}
use Rattle.std.proofs.lemmas.Int.{to_z-of_z}
use Rattle.std.proofs.lemmas.List.{drop_all, drop_more}
use Rattle.simplex_rows.specs.ShortRows.{WholesEndBefore, put_whole}
use Rattle.simplex_rows.specs.Combining.{WholesStartAt}
use Rattle.simplex_rows.proofs.FewMerging.{starts, front_fits, row_number, lead_number, row_kept, lead_kept, products_fit, turns, ended, split_is, ends_before, starts_at}
use Rattle.simplex_rows.proofs.Likewise.{on_ok}
use Rattle.simplex_rows.proofs.few_merging.put_combined.Goals as goal

pub loop-entry-init : goal.loop-entry-init
loop-entry-init c = rw (to_z-of_z w64 _ c.ranges.p, to_z-of_z w64 _ c.ranges.q, c.requires.empty) (starts c.args.p c.args.q c.args.row.now c.args.lead.now c.requires.fits)

pub put_times-requires : goal.put_times-requires
put_times-requires c =
    let entry : ℕ × ℤ = slice_index_or c.args.lead.now c.loop-entry.entry-index (0, pos 0) in
    let lead_is = drop_more c.args.lead.now c.loop-entry.entry-index (0, pos 0) c.loop-entry-test.true in
    let row_is = split_is _ _ _ _ c.split_at.ensures.front c.split_at.ensures.back in
    let ends : WholesEndBefore entry.0 c.split_at.result.0.now = rw c.split_at.ensures.front (ends_before entry.0 c.count_before.result _ c.count_before.ensures.before) in
    front_fits _ _ _ _ _ _ _ c.loop-entry.invariant _ _ _ lead_is _ _ row_is ends

pub difference-requires : goal.difference-requires
difference-requires c =
    let entry : ℕ × ℤ = slice_index_or c.args.lead.now c.loop-entry.entry-index (0, pos 0) in
    let lead_is = drop_more c.args.lead.now c.loop-entry.entry-index (0, pos 0) c.loop-entry-test.true in
    let row_is = split_is _ _ _ _ c.split_at.ensures.front c.split_at.ensures.back in
    let ends : WholesEndBefore entry.0 c.split_at.result.0.now = rw c.split_at.ensures.front (ends_before entry.0 c.count_before.result _ c.count_before.ensures.before) in
    let begins : WholesStartAt entry.0 c.split_at.result.1.now = rw c.split_at.ensures.back (starts_at entry.0 c.count_before.result _ c.count_before.ensures.next) in
    let x_is = c.take-number.ensures.number ∙ row_number _ _ _ _ _ _ _ c.loop-entry.invariant _ _ _ lead_is _ _ row_is ends begins in
    let b_is = lead_number _ _ _ _ _ _ _ c.loop-entry.invariant _ _ _ lead_is _ _ row_is ends in
    rw (to_z-of_z w64 _ c.ranges.p, to_z-of_z w64 _ c.ranges.q, x_is, b_is, row_kept c.args.p c.args.q c.args.row.now c.args.lead.now c.requires.fits entry.0, lead_kept c.args.p c.args.q c.args.row.now c.args.lead.now c.requires.fits entry.0)
    (products_fit c.args.p c.args.q c.args.row.now c.args.lead.now c.requires.fits entry.0)

pub loop-entry-preserved : goal.loop-entry-preserved
loop-entry-preserved c =
    let entry : ℕ × ℤ = slice_index_or c.args.lead.now c.loop-entry.entry-index (0, pos 0) in
    let lead_is = drop_more c.args.lead.now c.loop-entry.entry-index (0, pos 0) c.loop-entry-test.true in
    let row_is = split_is _ _ _ _ c.split_at.ensures.front c.split_at.ensures.back in
    let ends : WholesEndBefore entry.0 c.split_at.result.0.now = rw c.split_at.ensures.front (ends_before entry.0 c.count_before.result _ c.count_before.ensures.before) in
    let begins : WholesStartAt entry.0 c.split_at.result.1.now = rw c.split_at.ensures.back (starts_at entry.0 c.count_before.result _ c.count_before.ensures.next) in
    let positive : pos 0 <ℤ to_z w64 (of_z w64 c.args.p) = rw (to_z-of_z w64 c.args.p c.ranges.p) c.requires.fits.positive in
    let x_is = c.take-number.ensures.number ∙ row_number _ _ _ _ _ _ _ c.loop-entry.invariant _ _ _ lead_is _ _ row_is ends begins in
    let b_is = lead_number _ _ _ _ _ _ _ c.loop-entry.invariant _ _ _ lead_is _ _ row_is ends in
    let x_kept : to_z w64 (of_z w64 c.take-number.result.0) ≡ c.take-number.result.0 = rw x_is (row_kept c.args.p c.args.q c.args.row.now c.args.lead.now c.requires.fits entry.0) in
    let b_kept : to_z w64 (of_z w64 entry.1) ≡ entry.1 = rw b_is (lead_kept c.args.p c.args.q c.args.row.now c.args.lead.now c.requires.fits entry.0) in
    let value : c.difference.result ≡ to_z w64 (of_z w64 c.args.p) *ℤ c.take-number.result.0 -ℤ to_z w64 (of_z w64 c.args.q) *ℤ entry.1 = rw (x_kept, b_kept) at c.difference.ensures in
    let value_kept = to_z-of_z w64 c.difference.result (record { sfits = c.difference.type_inv }) in
    let made : c.put.new.made.items ≡ c.put_times.new.made.items ++ put_whole entry.0 (to_z w64 (of_z w64 c.args.p) *ℤ c.take-number.result.0 -ℤ to_z w64 (of_z w64 c.args.q) *ℤ entry.1) [] = c.in_ok-put.ensures ∙ ap (λ (n : ℤ). c.put_times.new.made.items ++ put_whole entry.0 n []) (value_kept ∙ value) in
    turns _ _ _ _ _ _ _ c.loop-entry.invariant _ _ _ lead_is _ _ row_is ends begins positive _ _ _ _ c.take-number.ensures.number c.take-number.ensures.later c.in_ok-put_times.ensures made

pub returns-clause-combined : goal.returns-clause-combined
returns-clause-combined c =
    let positive : pos 0 <ℤ to_z w64 (of_z w64 c.args.p) = rw (to_z-of_z w64 c.args.p c.ranges.p) c.requires.fits.positive in
    let past : drop c.loop-entry.entry-index c.args.lead.now ≡ [] = drop_all c.loop-entry.entry-index c.args.lead.now (omega arith) in
    on_ok c.put_times-2.result (λ made. let all = ended _ _ _ _ _ _ _ c.put_times-2.new.made.items c.loop-entry.invariant past positive made in rw (to_z-of_z w64 c.args.p c.ranges.p, to_z-of_z w64 c.args.q c.ranges.q) at all.each) c.put_times-2.ensures

pub returns-clause-ascends : goal.returns-clause-ascends
returns-clause-ascends c =
    let positive : pos 0 <ℤ to_z w64 (of_z w64 c.args.p) = rw (to_z-of_z w64 c.args.p c.ranges.p) c.requires.fits.positive in
    let past : drop c.loop-entry.entry-index c.args.lead.now ≡ [] = drop_all c.loop-entry.entry-index c.args.lead.now (omega arith) in
    on_ok c.put_times-2.result (λ made. let all = ended _ _ _ _ _ _ _ c.put_times-2.new.made.items c.loop-entry.invariant past positive made in all.ascends) c.put_times-2.ensures
