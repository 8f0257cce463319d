use Rattle.explain_sizes.proofs.Rising.{rising}
use Rattle.explain_sizes.proofs.laws.rises_with_sizes.Goals as goal

pub returns : goal.returns
returns c = rising
