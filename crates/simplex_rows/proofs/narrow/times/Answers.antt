use Rattle.std.specs.Int.{w128}
use Rattle.std.proofs.lemmas.Int.{to_z-of_z}
use Rattle.simplex_rows.proofs.Narrowing.{denominator_fits, quotient_is}
use Rattle.simplex_rows.proofs.narrow.times.Goals as goal

pub overflow_cast-result : goal.overflow_cast-result
overflow_cast-result c =
    rw (to_z-of_z w128 c.den-else-den-eq1.result (record { sfits = c.den-else-den-eq1.type_inv }), c.den-else-den-eq1.ensures)
    (denominator_fits c.args.number.now c.args.den c.requires.positive c.ranges.den c.requires.divides)

pub returns-else-den-eq1 : goal.returns-else-den-eq1
returns-else-den-eq1 c =
    rw (to_z-of_z w128 c.den-else-den-eq1.result (record { sfits = c.den-else-den-eq1.type_inv }), c.den-else-den-eq1.ensures)
    (quotient_is c.args.number.now c.args.den c.requires.positive c.ranges.den c.requires.divides)
