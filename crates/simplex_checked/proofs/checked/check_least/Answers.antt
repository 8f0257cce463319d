use Rattle.std.proofs.lemmas.Int.{to_z_pos}
use Rattle.std.specs.Int.{w128}
use Rattle.simplex_checked.proofs.checked.check_least.Goals as goal

pub unreachable-requires : goal.unreachable-requires
unreachable-requires c = c.least_quickly.ensures.no c.in-No.column c.in-No.is (rw (to_z_pos w128 c.args.denominator c.requires.fits) c.requires.proves)

pub returns-in-Yes-clause-passed : goal.returns-in-Yes-clause-passed
returns-in-Yes-clause-passed c = rw (to_z_pos w128 c.args.denominator c.requires.fits) at (rw c.in-Yes.is at c.least_quickly.ensures.first)

pub returns-in-Leaves-clause-leaves : goal.returns-in-Leaves-clause-leaves
returns-in-Leaves-clause-leaves c = rw (to_z_pos w128 c.args.denominator c.requires.fits) at (rw c.in-Leaves.is at c.least_quickly.ensures.first)
