use Rattle.std.proofs.Common.{rules, arith, FitsSigned, slice_index_or, pos, subst, ℤ}
use Rattle.std.proofs.lemmas.Int.{to_z-of_z}
use Rattle.std.proofs.lemmas.List.{drop_all}
use Rattle.std.specs.Int.{w64}
use Rattle.simplex_rows.specs.Placed.{AreLessened}
use Rattle.simplex_rows.proofs.ManyChanging.{difference_read, lessened_next, all_lessened}
use Rattle.simplex_rows.proofs.places.lessen.Goals as goal

pub overflow_sub-numbers : goal.overflow_sub-numbers
overflow_sub-numbers c =
    let f : FitsSigned w64 c.args.q = search rules in
    let e = slice_index_or c.args.lead.now c.loop-entry.entry-index (0, pos 0) in
    let g : FitsSigned w64 (slice_index_or c.loop-entry.numbers e.0 (pos 0)) = search rules in
    let h : FitsSigned w64 e.1 = search rules in
    difference_read c.args.q c.loop-entry.entry-index c.args.lead.now c.args.numbers.now c.loop-entry.numbers f (omega arith) c.loop-entry.invariant c.requires.fit g h

pub loop-entry-preserved : goal.loop-entry-preserved
loop-entry-preserved c =
    let f : FitsSigned w64 c.args.q = search rules in
    let e = slice_index_or c.args.lead.now c.loop-entry.entry-index (0, pos 0) in
    let g : FitsSigned w64 (slice_index_or c.loop-entry.numbers e.0 (pos 0)) = search rules in
    let h : FitsSigned w64 e.1 = search rules in
    lessened_next c.args.q c.loop-entry.entry-index c.args.lead.now c.args.numbers.now c.loop-entry.numbers f (omega arith) c.loop-entry.invariant c.requires.fit g h

pub returns : goal.returns
returns c =
    let f : FitsSigned w64 c.args.q = search rules in
    subst (λ (z : ℤ). AreLessened z c.args.lead.now c.args.numbers.now c.loop-entry.numbers) (to_z-of_z w64 c.args.q f)
    (all_lessened _ _ c.args.lead.now c.args.numbers.now c.loop-entry.numbers (drop_all c.loop-entry.entry-index c.args.lead.now (omega arith)) c.loop-entry.invariant)
