use Rattle.std.proofs.Common.{◌<◌, ℕ, sym, subst}
use Rattle.std.proofs.lemmas.List.{drop_all}
use Rattle.explain_verdicts.specs.Over.{NoCommon, IsLeastCommon}
use Rattle.explain_verdicts.specs.declared.fraction.Fraction.{Fraction}
use Rattle.explain_verdicts.proofs.Multiples.{from_place, common_at, none_yet, one_more, no_more, all_seen, none_from}
use Rattle.explain_verdicts.proofs.over.common.Goals as goal

pub loop-fraction-init : goal.loop-fraction-init
loop-fraction-init c = none_yet c.args.fractions.now

pub returns-in_err-so_far : goal.returns-in_err-so_far
returns-in_err-so_far c =
    let fs = c.args.fractions.now in
    let f = c.fraction-item.result in
    let divides = λ (n : ℕ). common_at fs c.loop-fraction.fraction-index f n c.fraction-item.is c.loop-fraction-test.true in
    none_from (NoCommon fs) (IsLeastCommon fs) c.from_residual.result c.from_residual.ensures (no_more fs c.loop-fraction.so_far f divides c.loop-fraction.invariant.least c.in_err-so_far.ensures)

pub loop-fraction-preserved : goal.loop-fraction-preserved
loop-fraction-preserved c =
    let fs = c.args.fractions.now in
    let i = c.loop-fraction.fraction-index in
    let f = c.fraction-item.result in
    let divides = λ (n : ℕ). common_at fs i f n c.fraction-item.is c.loop-fraction-test.true in
    one_more fs _ _ c.loop-fraction.so_far c.in_ok-so_far.so_far f (from_place fs i f c.fraction-item.is c.loop-fraction-test.true) (subst (λ (f : Fraction). 0 < f.denominator) (sym c.fraction-item.is) (c.requires i f c.loop-fraction-test.true)) divides
    c.loop-fraction.invariant c.in_ok-so_far.ensures

pub returns : goal.returns
returns c = all_seen c.args.fractions.now _ c.loop-fraction.so_far (drop_all c.loop-fraction.fraction-index c.args.fractions.now c.loop-fraction-test.false) c.loop-fraction.invariant
