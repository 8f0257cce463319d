use Rattle.std.proofs.Common.{rules, FitsSigned, w64}
use Rattle.std.proofs.lemmas.Int.{to_z-of_z}
use Rattle.std.proofs.lemmas.List.{drop_all}
use Rattle.simplex_rows.proofs.Narrowing.{comes_next, multiple_starts, multiple_goes_on, multiple_ends}
use Rattle.simplex_rows.proofs.narrow.common_denominator.Goals as goal

pub loop-entry-init : goal.loop-entry-init
loop-entry-init c = multiple_starts c.args.entries.now

pub common_multiple-requires : goal.common_multiple-requires
common_multiple-requires c = c.loop-entry.invariant.positive

pub loop-entry-preserved : goal.loop-entry-preserved
loop-entry-preserved c =
    let fits : FitsSigned w64 c.in_ok-common.common = search rules in
    rw (to_z-of_z w64 c.in_ok-common.common fits)
    (multiple_goes_on c.args.entries.now _ c.in_ok-common.common _ _ c.entry-item.result c.loop-entry.invariant (comes_next _ _ _ c.entry-item.is c.loop-entry-test.true) c.in_ok-common.ensures.positive c.in_ok-common.ensures.common c.in_ok-common.ensures.den)

pub returns-clause-positive : goal.returns-clause-positive
returns-clause-positive c = c.loop-entry.invariant.positive

pub returns-clause-divide : goal.returns-clause-divide
returns-clause-divide c = multiple_ends c.args.entries.now _ _ c.loop-entry.invariant (drop_all c.loop-entry.entry-index c.args.entries.now c.loop-entry-test.false)
