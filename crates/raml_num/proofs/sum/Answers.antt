use Rattle.std.proofs.Common.{rules, FitsSigned, get_or, pos, ◌+◌}
use Rattle.std.proofs.lemmas.Int.{to_z-of_z}
use Rattle.std.specs.Int.{w128}
use Rattle.raml_num.proofs.Totals.{IsSumSoFar, one_more, too_large}
use Rattle.raml_num.proofs.sum.Goals as goal

pub returns-in_err-so_far : goal.returns-in_err-so_far
returns-in_err-so_far c =
    let f : FitsSigned w128 (get_or c.args.terms.now c.loop-term.term-index (pos 0)) = search rules in
    rw c.from_residual.ensures (too_large _ _ _ c.loop-term-test.true c.loop-term.invariant (simp (to_z-of_z w128 _ f) at c.in_err-so_far.ensures))

pub loop-term-preserved : goal.loop-term-preserved
loop-term-preserved c =
    let f : FitsSigned w128 (get_or c.args.terms.now c.loop-term.term-index (pos 0)) = search rules in
    let e = simp (to_z-of_z w128 _ f) at c.in_ok-so_far.ensures in
    let m : IsSumSoFar c.args.terms.now (c.loop-term.term-index + 1) c.in_ok-so_far.so_far = one_more _ _ _ _ c.loop-term-test.true c.loop-term.invariant e.1 in
    rw (to_z-of_z w128 c.in_ok-so_far.so_far (search rules)) m
