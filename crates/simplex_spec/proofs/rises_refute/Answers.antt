use Rattle.simplex_spec.proofs.Agreeing.{rise_refutes}
use Rattle.simplex_spec.proofs.rises_refute.Goals as goal

pub returns : goal.returns
returns c = rise_refutes
