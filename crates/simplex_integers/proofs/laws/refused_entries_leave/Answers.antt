use Rattle.simplex_integers.proofs.Least.{refused_entries_leave}
use Rattle.simplex_integers.proofs.laws.refused_entries_leave.Goals as goal

pub returns : goal.returns
returns c = refused_entries_leave
