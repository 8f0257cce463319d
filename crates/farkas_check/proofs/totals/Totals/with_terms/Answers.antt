use Rattle.std.proofs.Common.{rules, FitsSigned, get_or, pos}
use Rattle.std.proofs.lemmas.Int.{to_z-of_z}
use Rattle.std.specs.Int.{w128}
use Rattle.farkas_check.proofs.Carrying.{further, too_far}
use Rattle.farkas_check.proofs.Unrolling.{term_next}
use Rattle.farkas_check.proofs.totals.Totals.with_terms.Goals as goal

pub returns-in_err-totals : goal.returns-in_err-totals
returns-in_err-totals c =
    let f : FitsSigned w128 (get_or c.args.terms.now c.loop-term.term-index (0, pos 0)).1 = search rules in
    let g : FitsSigned w128 (get_or c.args.x.now (get_or c.args.terms.now c.loop-term.term-index (0, pos 0)).0 (pos 0)) = search rules in
    let m = simp (to_z-of_z w128 _ f, to_z-of_z w128 _ g) at c.in_err-totals.ensures in
    rw c.from_residual.ensures (too_far _ _ _ _ _ _ (term_next c.args.terms.now c.args.x.now c.loop-term.term-index c.loop-term-test.true) c.loop-term.invariant m)

pub loop-term-preserved : goal.loop-term-preserved
loop-term-preserved c =
    let f : FitsSigned w128 (get_or c.args.terms.now c.loop-term.term-index (0, pos 0)).1 = search rules in
    let g : FitsSigned w128 (get_or c.args.x.now (get_or c.args.terms.now c.loop-term.term-index (0, pos 0)).0 (pos 0)) = search rules in
    let m = simp (to_z-of_z w128 _ f, to_z-of_z w128 _ g) at c.in_ok-totals.ensures in
    further _ _ _ _ _ _ _ (term_next c.args.terms.now c.args.x.now c.loop-term.term-index c.loop-term-test.true) c.loop-term.invariant m
