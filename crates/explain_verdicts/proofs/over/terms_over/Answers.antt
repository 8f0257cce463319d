use Rattle.std.proofs.Common.{SFits, rules, ◌∙◌}
use Rattle.std.specs.Int.{w128}
use Rattle.std.proofs.lemmas.Int.{to_z-of_z}
use Rattle.std.proofs.lemmas.List.{drop_all}
use Rattle.explain_verdicts.proofs.Multiples.{from_place}
use Rattle.explain_verdicts.proofs.Terms.{none_made, term_made, all_made, all_below, one_leaves}
use Rattle.explain_verdicts.proofs.over.terms_over.Goals as goal

pub loop-fraction-init : goal.loop-fraction-init
loop-fraction-init c = none_made c.args.den c.args.fractions.now c.in_ok-terms.terms.items c.in_ok-terms.ensures.items

pub returns-in-None-clause-none : goal.returns-in-None-clause-none
returns-in-None-clause-none c = one_leaves c.args.den c.args.fractions.now c.loop-fraction.fraction-index c.fraction-item.result c.fraction-item.is c.loop-fraction-test.true c.in-None.ensures.none

pub loop-fraction-preserved : goal.loop-fraction-preserved
loop-fraction-preserved c =
    let fs = c.args.fractions.now in
    let i = c.loop-fraction.fraction-index in
    let f = c.fraction-item.result in
    let fits : SFits w128 c.in-Some.number = search rules in
    let pushed = to_z-of_z w128 c.in-Some.number fits in
    term_made c.args.den fs _ _ c.loop-fraction.terms.items c.push.new.self.items f c.in_ok-copy-in-Some.field-0 _
    (from_place fs i f c.fraction-item.is c.loop-fraction-test.true) c.in_ok-copy-in-Some.ensures (pushed ∙ c.in-Some.ensures.some) c.in-Some.ensures.below c.in_ok-push-in-Some.ensures.items c.loop-fraction.invariant

pub returns-clause-some : goal.returns-clause-some
returns-clause-some c = all_made c.args.den c.args.fractions.now _ c.loop-fraction.terms.items (drop_all c.loop-fraction.fraction-index c.args.fractions.now c.loop-fraction-test.false) c.loop-fraction.invariant

pub returns-clause-below : goal.returns-clause-below
returns-clause-below c = all_below c.args.den c.args.fractions.now _ c.loop-fraction.terms.items (drop_all c.loop-fraction.fraction-index c.args.fractions.now c.loop-fraction-test.false) c.loop-fraction.invariant
