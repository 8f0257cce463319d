use Rattle.explain_nested.proofs.Meaning.{means_what_counts}
use Rattle.explain_nested.proofs.laws.means_what_counts.Goals as goal

pub returns : goal.returns
returns c = means_what_counts
