use Rattle.std.proofs.Common.{unsigned_abs, w64}
use Rattle.std.proofs.lemmas.Int.{to_z-of_z}
use Rattle.std.specs.Int.{IsGcd}
use Rattle.simplex_rows.proofs.Divisors.{gcd_fits, gcd_positive, divides_first, divides_second}
use Rattle.simplex_rows.proofs.dividing.common_with.Goals as goal

divisor : (c : goal.After-gcd) → IsGcd (unsigned_abs c.args.common) (unsigned_abs c.args.n) c.gcd.result
divisor c = rw (c.from.ensures, c.from-2.ensures, c.unsigned_abs.ensures.value, c.unsigned_abs-2.ensures.value, to_z-of_z w64 _ c.ranges.common, to_z-of_z w64 _ c.ranges.n) at c.gcd.ensures

pub overflow_cast-result : goal.overflow_cast-result
overflow_cast-result c = gcd_fits c.args.common c.args.n c.gcd.result c.requires c.ranges.common (divisor c)

pub returns-clause-positive : goal.returns-clause-positive
returns-clause-positive c = gcd_positive c.args.common c.args.n c.gcd.result c.requires c.ranges.common (divisor c)

pub returns-clause-first : goal.returns-clause-first
returns-clause-first c = divides_first c.args.common c.args.n c.gcd.result c.requires c.ranges.common (divisor c)

pub returns-clause-second : goal.returns-clause-second
returns-clause-second c = divides_second c.args.common c.args.n c.gcd.result c.requires c.ranges.common (divisor c)
