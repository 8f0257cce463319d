use Rattle.std.proofs.Common.{arith, pos}
use Rattle.simplex_rows.proofs.ManyReaching.{last_ends}
use Rattle.simplex_rows.proofs.places.places_for.Goals as goal

pub returns-in-Some-clause-ends : goal.returns-in-Some-clause-ends
returns-in-Some-clause-ends c = let e = c.in-Some.ensures.item in last_ends c.args.entries.now c.in-Some.entry.now c.requires (omega arith) (e.4 (omega arith) (0, pos 0))
