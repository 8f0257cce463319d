use Rattle.simplex_spec.proofs.Agreeing.{agree}
use Rattle.simplex_spec.proofs.ends_agree.Goals as goal

pub returns : goal.returns
returns c = agree
