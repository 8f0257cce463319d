use Rattle.explain_reading.proofs.Legend.{legend_suffices}
use Rattle.explain_reading.proofs.laws.legend_suffices.Goals as goal

pub returns : goal.returns
returns c = legend_suffices
