use Rattle.std.proofs.Common.{◌≡◌, arith}
use Rattle.frac128.specs.Values.{denominator}
use Rattle.raml_num.specs.Divisors.{IsLcm, EachCommonMultipleLeaves}
use Rattle.simplex_integers.proofs.Common.{is_next, none_fits, same_next, too_great}
use Rattle.simplex_integers.proofs.denominator.with_denominator.Goals as goal

pub returns-then-denominator-eq1 : goal.returns-then-denominator-eq1
returns-then-denominator-eq1 c =
    let e : denominator c.args.fraction.now ≡ 1 = omega (arith, c.denominator_of-denominator.ensures.is, c.if-denominator-eq1.true) in
    same_next _ _ e c.requires.positive c.requires.fits

pub returns-in-None : goal.returns-in-None
returns-in-None c =
    let h : EachCommonMultipleLeaves c.args.so_far (denominator c.args.fraction.now) = rw c.denominator_of-denominator.ensures.is at c.in-None.ensures in
    none_fits _ _ h

pub returns-then-next : goal.returns-then-next
returns-then-next c =
    let h : IsLcm c.args.so_far (denominator c.args.fraction.now) c.in-Some.next = rw c.denominator_of-denominator.ensures.is at c.in-Some.ensures in
    too_great _ _ _ h (omega (arith, c.if-next.true))

pub returns-else-next : goal.returns-else-next
returns-else-next c =
    let h : IsLcm c.args.so_far (denominator c.args.fraction.now) c.in-Some.next = rw c.denominator_of-denominator.ensures.is at c.in-Some.ensures in
    let p = rw c.denominator_of-denominator.ensures.is at c.denominator_of-denominator.ensures.positive in
    is_next _ _ _ c.requires.positive p h (omega (arith, c.if-next.false))
