use Rattle.std.proofs.Common.{rules, refl, FitsSigned, w64}
use Rattle.std.proofs.lemmas.Int.{to_z-of_z}
use Rattle.std.proofs.lemmas.List.{drop_all}
use Rattle.simplex_rows.proofs.Narrowing.{comes_next, narrowing_goes_on, narrowing_ends}
use Rattle.simplex_rows.proofs.narrow.numbers_over.Goals as goal

pub loop-entry-init : goal.loop-entry-init
loop-entry-init c =
    rw (to_z-of_z w64 c.args.den c.ranges.den, c.in_ok-numbers.ensures.items)
    (record { made = refl; short = tt; divide = c.requires.divide })

pub numerator_over-requires-clause-divides : goal.numerator_over-requires-clause-divides
numerator_over-requires-clause-divides c = let here = rw (comes_next _ _ _ c.entry-item.is c.loop-entry-test.true) at c.loop-entry.invariant.divide in here.0

pub loop-entry-preserved : goal.loop-entry-preserved
loop-entry-preserved c =
    let fits : FitsSigned w64 c.in-Some.number = search rules in
    rw (c.in_ok-push.ensures.items, to_z-of_z w64 c.in-Some.number fits)
    (narrowing_goes_on _ c.args.entries.now c.loop-entry.numbers.items _ _ c.entry-item.result c.in-Some.number c.loop-entry.invariant (comes_next _ _ _ c.entry-item.is c.loop-entry-test.true) c.in-Some.ensures.value c.in-Some.ensures.short)

pub returns-clause-value : goal.returns-clause-value
returns-clause-value c = rw (to_z-of_z w64 c.args.den c.ranges.den) at (narrowing_ends _ c.args.entries.now c.loop-entry.numbers.items _ c.loop-entry.invariant (drop_all c.loop-entry.entry-index c.args.entries.now c.loop-entry-test.false))

pub returns-clause-short : goal.returns-clause-short
returns-clause-short c = c.loop-entry.invariant.short
