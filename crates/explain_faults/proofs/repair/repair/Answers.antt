use Rattle.std.proofs.Common.{rules}
use Rattle.explain_faults.proofs.repair.repair.Goals as goal

pub returns : goal.returns
returns c = record { edit = c.args.edit; one = search rules; mends = search rules }
