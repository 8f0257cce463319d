use Rattle.explain_nested.proofs.Ordering.{behind_is}
use Rattle.explain_nested.proofs.names.behind.Goals as goal

pub returns : goal.returns
returns c = behind_is c.args.names.now c.args.count c.min.result c.min.ensures
