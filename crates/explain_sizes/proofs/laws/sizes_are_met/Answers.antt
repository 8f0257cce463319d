use Rattle.explain_sizes.proofs.Uniform.{sizes_met}
use Rattle.explain_sizes.proofs.laws.sizes_are_met.Goals as goal

pub returns : goal.returns
returns c = sizes_met
