use Rattle.std.proofs.Common.{refl, FitsSigned, pos, w64, arith, rules, slice_index_or}
use Rattle.std.proofs.lemmas.Int.{to_z-of_z}
use Rattle.std.proofs.lemmas.List.{drop_all, drop_more}
use Rattle.simplex_rows.proofs.Divisors.{common_goes_on, common_ends, common_is_one}
use Rattle.simplex_rows.proofs.places.common_divisor.Goals as goal

pub returns-then-common-eq1-clause-first : goal.returns-then-common-eq1-clause-first
returns-then-common-eq1-clause-first c = rw (to_z-of_z w64 _ c.ranges.first) at c.loop-number.invariant.divides

pub returns-then-common-eq1-clause-multiples : goal.returns-then-common-eq1-clause-multiples
returns-then-common-eq1-clause-multiples c = common_is_one _ _ _ _ c.loop-number.invariant (rw c.if-common-eq1.true refl)

pub loop-number-preserved : goal.loop-number-preserved
loop-number-preserved c =
    let fits : FitsSigned w64 (slice_index_or c.args.numbers.now c.loop-number.number-index (pos 0)) = search rules in
    let next = drop_more c.args.numbers.now c.loop-number.number-index (pos 0) c.loop-number-test.true in
    rw (to_z-of_z w64 c.common_with-common.result (record { sfits = c.common_with-common.type_inv })) (common_goes_on _ _ _ c.common_with-common.result _ _ _ c.loop-number.invariant next c.common_with-common.ensures.positive c.common_with-common.ensures.first (rw (to_z-of_z w64 _ fits) at c.common_with-common.ensures.second))

pub returns-clause-first : goal.returns-clause-first
returns-clause-first c = rw (to_z-of_z w64 _ c.ranges.first) at c.loop-number.invariant.divides

pub returns-clause-multiples : goal.returns-clause-multiples
returns-clause-multiples c = common_ends _ _ _ _ c.loop-number.invariant (drop_all c.loop-number.number-index c.args.numbers.now (omega arith))
