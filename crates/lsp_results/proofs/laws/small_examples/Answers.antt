use Rattle.lsp_results.proofs.Computed.{examples_hold}
use Rattle.lsp_results.proofs.laws.small_examples.Goals as goal

pub returns : goal.returns
returns c = examples_hold
