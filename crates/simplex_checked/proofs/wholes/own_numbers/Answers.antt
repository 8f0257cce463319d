use Rattle.std.proofs.Common.{ap, Err}
use Rattle.simplex_checked.proofs.Taking.{number_fits}
use Rattle.simplex_checked.proofs.wholes.own_numbers.Goals as goal

pub unreachable-requires : goal.unreachable-requires
unreachable-requires c =
    number_fits c.refused_entries_leave.ensures c.args.fractions.now c.requires.wholes c.args.denominator c.requires.denominator c.in-Err-Leaves.field-0-0
    (c.in-Err-Leaves.ensures.leaves _ (ap Err c.in-Err-Leaves.field-0-is))
