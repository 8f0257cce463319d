use Rattle.explain_exchange.proofs.Keep.{exchanging_keeps}
use Rattle.explain_exchange.proofs.laws.exchanging_keeps.Goals as goal

pub returns : goal.returns
returns c = exchanging_keeps
