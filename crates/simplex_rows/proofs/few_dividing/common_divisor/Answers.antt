use Rattle.std.proofs.Common.{refl, ap, map, FitsSigned, pos, w64, arith, rules, slice_index_or}
use Rattle.std.proofs.lemmas.Int.{to_z-of_z}
use Rattle.std.proofs.lemmas.List.{drop_all, drop_more}
use Rattle.simplex_rows.proofs.Divisors.{common_goes_on, common_ends, common_is_one}
use Rattle.simplex_rows.proofs.few_dividing.common_divisor.Goals as goal

pub loop-entry-preserved : goal.loop-entry-preserved
loop-entry-preserved c =
    let entry = slice_index_or c.args.numbers.now c.loop-entry.entry-index (0, pos 0) in
    let fits : FitsSigned w64 entry.1 = search rules in
    let next = ap (map (λ e. e.1)) (drop_more c.args.numbers.now c.loop-entry.entry-index (0, pos 0) c.loop-entry-test.true) in
    rw (to_z-of_z w64 c.common_with-common.result (record { sfits = c.common_with-common.type_inv })) (common_goes_on _ _ _ c.common_with-common.result _ _ entry.1 c.loop-entry.invariant next c.common_with-common.ensures.positive c.common_with-common.ensures.first (rw (to_z-of_z w64 _ fits) at c.common_with-common.ensures.second))

pub returns-after-loop-entry-clause-first : goal.returns-after-loop-entry-clause-first
returns-after-loop-entry-clause-first c = rw (to_z-of_z w64 _ c.ranges.first) at c.loop-entry.invariant.divides

pub returns-then-common-eq1-clause-first : goal.returns-then-common-eq1-clause-first
returns-then-common-eq1-clause-first c = rw (to_z-of_z w64 _ c.ranges.first) at c.loop-entry.invariant.divides

pub returns-then-common-eq1-clause-each : goal.returns-then-common-eq1-clause-each
returns-then-common-eq1-clause-each c = common_is_one _ _ _ _ c.loop-entry.invariant (rw c.if-common-eq1.true refl)

pub returns-after-loop-entry-clause-each : goal.returns-after-loop-entry-clause-each
returns-after-loop-entry-clause-each c = common_ends _ _ _ _ c.loop-entry.invariant (ap (map (λ e. e.1)) (drop_all c.loop-entry.entry-index c.args.numbers.now (omega arith)))
