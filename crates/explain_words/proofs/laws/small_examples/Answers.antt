use Rattle.explain_words.proofs.Computed.{examples_hold}
use Rattle.explain_words.proofs.laws.small_examples.Goals as goal

pub returns : goal.returns
returns c = examples_hold
