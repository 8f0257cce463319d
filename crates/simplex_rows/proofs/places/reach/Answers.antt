use Rattle.std.proofs.Common.{arith}
use Rattle.simplex_rows.proofs.Wholes.{end_up_to}
use Rattle.simplex_rows.proofs.places.reach.Goals as goal

pub returns-else-len-places-clause-ends : goal.returns-else-len-places-clause-ends
returns-else-len-places-clause-ends c = end_up_to _ _ c.args.entries.now c.places_for-places.ensures.ends (omega arith)
