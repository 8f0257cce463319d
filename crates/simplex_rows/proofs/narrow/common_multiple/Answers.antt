use Rattle.std.proofs.Common.{◌≡◌, ◌<ℤ◌, ◌*ℤ◌, FitsSigned, rules, arith, unsigned_abs, ℤ, pos, to_z, of_z, w64}
use Rattle.std.specs.Int.{w128}
use Rattle.std.proofs.lemmas.Int.{ints, to_z-of_z}
use Rattle.std.proofs.Math.Nat.{one-dvd}
use Rattle.frac128.specs.Values.{denominator}
use Prim.Native.Nat.{◌∣◌}
use Rattle.simplex_rows.specs.Multiples.{IsMultiple}
use Rattle.simplex_rows.proofs.Narrowing.{if_told, multiple_positive, multiple_of_first, multiple_of_second}
use Rattle.simplex_rows.proofs.narrow.common_multiple.Goals as goal

den_is_one : (c : goal.Then-den-eq1) → denominator c.args.number.now ≡ 1
den_is_one c = search rules

pub returns-then-den-eq1-clause-den : goal.returns-then-den-eq1-clause-den
returns-then-den-eq1-clause-den c = rw (den_is_one c) (one-dvd _)

pub over-requires-clause-multiple : goal.over-requires-clause-multiple
over-requires-clause-multiple c = rw (to_z-of_z w64 c.common_with.result (record { sfits = c.common_with.type_inv })) c.common_with.ensures.second

fits : (c : goal.After-checked_mul) → FitsSigned w64 (pos (denominator c.args.number.now))
fits c = search rules

den : (c : goal.After-checked_mul) → to_z w64 (of_z w64 (to_z w128 (of_z w128 c.den-den.result))) ≡ pos (denominator c.args.number.now)
den c = rw (to_z-of_z w128 c.den-den.result (record { sfits = c.den-den.type_inv }), c.den-den.ensures) (to_z-of_z w64 (pos (denominator c.args.number.now)) (fits c))

over_kept : (c : goal.After-checked_mul) → to_z w64 (of_z w64 c.over.result) ≡ c.over.result
over_kept c = to_z-of_z w64 c.over.result (record { sfits = c.over.type_inv })

divided : (c : goal.After-checked_mul) → c.over.result *ℤ c.common_with.result ≡ c.args.common
divided c = rw (to_z-of_z w64 c.common_with.result (record { sfits = c.common_with.type_inv }), to_z-of_z w64 c.args.common c.ranges.common) at c.over.ensures

den_positive : (c : goal.After-checked_mul) → pos 0 <ℤ pos (denominator c.args.number.now)
den_positive c = let p = c.args.number.now.lowest.positive in omega (arith, ints)

shares : (c : goal.After-checked_mul) → IsMultiple c.common_with.result (pos (denominator c.args.number.now))
shares c = rw (den c) at c.common_with.ensures.first

pub returns-clause-positive : goal.returns-clause-positive
returns-clause-positive c =
    if_told (λ (m : ℤ). pos 0 <ℤ m) _ _ c.checked_mul.result (rw (over_kept c, den c) at c.checked_mul.ensures)
    (multiple_positive c.over.result c.args.common c.common_with.result (pos (denominator c.args.number.now)) (divided c) c.requires c.common_with.ensures.positive (den_positive c) (shares c))

pub returns-clause-common : goal.returns-clause-common
returns-clause-common c =
    if_told (λ (m : ℤ). unsigned_abs c.args.common ∣ unsigned_abs m) _ _ c.checked_mul.result (rw (over_kept c, den c) at c.checked_mul.ensures)
    (multiple_of_first c.over.result c.args.common c.common_with.result (pos (denominator c.args.number.now)) (divided c) c.requires c.common_with.ensures.positive (den_positive c) (shares c))

pub returns-clause-den : goal.returns-clause-den
returns-clause-den c =
    if_told (λ (m : ℤ). denominator c.args.number.now ∣ unsigned_abs m) _ _ c.checked_mul.result (rw (over_kept c, den c) at c.checked_mul.ensures)
    (multiple_of_second c.over.result c.args.common c.common_with.result (pos (denominator c.args.number.now)) (divided c) c.requires c.common_with.ensures.positive (den_positive c) (shares c))
