use Rattle.simplex_spec.proofs.Agreeing.{not_both}
use Rattle.simplex_spec.proofs.ends_or_rises.Goals as goal

pub returns : goal.returns
returns c = not_both
