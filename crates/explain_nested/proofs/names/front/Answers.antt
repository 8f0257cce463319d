use Rattle.explain_nested.proofs.Ordering.{front_is}
use Rattle.explain_nested.proofs.names.front.Goals as goal

pub returns : goal.returns
returns c = front_is c.args.names.now c.args.count c.min.result c.min.ensures
