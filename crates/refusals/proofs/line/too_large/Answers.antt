use Rattle.std.proofs.Common.{rules}
use Rattle.refusals.proofs.line.too_large.Goals as goal
use Rattle.refusals.specs.Refusals.{names_in}

pub returns : goal.returns
returns c = c.told.ensures (names_in c.args.program.now) (search rules)
