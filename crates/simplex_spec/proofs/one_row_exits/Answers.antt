use Rattle.simplex_spec.proofs.Agreeing.{one_exits}
use Rattle.simplex_spec.proofs.one_row_exits.Goals as goal

pub returns : goal.returns
returns c = one_exits
