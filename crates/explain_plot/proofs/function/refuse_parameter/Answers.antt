use Rattle.explain_plot.specs.Along.{no_parameter}
use Rattle.explain_plot.proofs.function.refuse_parameter.Goals as goal

pub returns-clause-refused : goal.returns-clause-refused
returns-clause-refused c = c.refused.ensures (no_parameter c.args.words.now)
