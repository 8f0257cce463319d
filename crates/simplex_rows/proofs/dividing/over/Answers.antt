use Rattle.simplex_rows.proofs.Divisors.{quotient_read}
use Rattle.simplex_rows.proofs.dividing.over.Goals as goal

pub returns-else-number-eq0 : goal.returns-else-number-eq0
returns-else-number-eq0 c = quotient_read c.args.number c.args.by c.ranges.number c.ranges.by c.requires.positive c.requires.multiple
