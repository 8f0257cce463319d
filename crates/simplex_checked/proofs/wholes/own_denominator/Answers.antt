use Rattle.simplex_checked.proofs.Taking.{denominator_fits}
use Rattle.simplex_checked.proofs.wholes.own_denominator.Goals as goal

pub unreachable-requires : goal.unreachable-requires
unreachable-requires c = denominator_fits c.refused_entries_leave.ensures c.args.fractions.now c.requires c.in-Err.field-0 c.in-Err.ensures
