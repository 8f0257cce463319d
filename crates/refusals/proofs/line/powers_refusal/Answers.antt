use Rattle.std.proofs.Common.{rules}
use Rattle.refusals.specs.Refusals.{names_in}
use Rattle.refusals.proofs.line.powers_refusal.Goals as goal

pub returns : goal.returns
returns c = c.told.ensures (names_in c.args.program.now) (search rules)
