use Rattle.explain_plot.proofs.Computed.{examples_hold}
use Rattle.explain_plot.proofs.laws.small_examples.Goals as goal

pub returns : goal.returns
returns c = examples_hold
