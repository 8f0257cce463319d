use Rattle.std.proofs.Common.{w64, pos, arith}
use Rattle.std.proofs.lemmas.Int.{ints, to_z-of_z}
use Rattle.simplex_rows.specs.Sharing.{Shares}
use Rattle.simplex_rows.proofs.Sharing.{by_divisor, some_shares}
use Rattle.simplex_rows.proofs.factors.find_factors.Goals as goal
use Rattle.simplex_rows.proofs.factors.find_factors.Goals.{After-over-2}

pub over-requires-clause-multiple : goal.over-requires-clause-multiple
over-requires-clause-multiple c = rw (to_z-of_z w64 c.common_with-divisor.result (record { sfits = c.common_with-divisor.type_inv })) c.common_with-divisor.ensures.first

pub over-requires-2-clause-multiple : goal.over-requires-2-clause-multiple
over-requires-2-clause-multiple c = rw (to_z-of_z w64 c.common_with-divisor.result (record { sfits = c.common_with-divisor.type_inv })) c.common_with-divisor.ensures.second

shared : (c : After-over-2) → Shares c.args.number c.args.lead_den c.over.result c.over-2.result
shared c =
    let own = rw (to_z-of_z w64 c.common_with-divisor.result (record { sfits = c.common_with-divisor.type_inv }), to_z-of_z w64 _ c.ranges.lead_den) at c.over.ensures in
    let times = rw (to_z-of_z w64 c.common_with-divisor.result (record { sfits = c.common_with-divisor.type_inv }), to_z-of_z w64 _ c.ranges.number) at c.over-2.ensures in
    by_divisor c.args.number c.args.lead_den c.common_with-divisor.result c.over.result c.over-2.result c.requires.den c.common_with-divisor.ensures.positive own times

pub bounded-requires-2-clause-own : goal.bounded-requires-2-clause-own
bounded-requires-2-clause-own c = let s = shared c in rw (to_z-of_z w64 c.over.result (record { sfits = c.over.type_inv })) s.own_positive

pub returns-then-lead_den-eq1-clause-shares : goal.returns-then-lead_den-eq1-clause-shares
returns-then-lead_den-eq1-clause-shares c = some_shares c.bounded.result c.args.number c.args.lead_den (pos 1) c.args.number c.bounded.ensures.own (rw (to_z-of_z w64 _ c.ranges.number) at c.bounded.ensures.times)
    (by_divisor c.args.number c.args.lead_den (pos 1) (pos 1) c.args.number c.requires.den (omega (arith, ints)) (omega (arith, ints)) (omega (arith, ints)))

pub returns-clause-shares : goal.returns-clause-shares
returns-clause-shares c =
    some_shares c.bounded-2.result c.args.number c.args.lead_den c.over.result c.over-2.result
    (rw (to_z-of_z w64 c.over.result (record { sfits = c.over.type_inv })) at c.bounded-2.ensures.own) (rw (to_z-of_z w64 c.over-2.result (record { sfits = c.over-2.type_inv })) at c.bounded-2.ensures.times) (shared c.before)
