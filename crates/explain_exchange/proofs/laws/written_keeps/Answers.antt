use Rattle.explain_exchange.proofs.Keep.{written_keeps}
use Rattle.explain_exchange.proofs.laws.written_keeps.Goals as goal

pub returns : goal.returns
returns c = written_keeps
