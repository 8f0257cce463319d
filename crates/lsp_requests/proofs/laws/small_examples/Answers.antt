use Rattle.lsp_requests.proofs.Computed.{examples_hold}
use Rattle.lsp_requests.proofs.laws.small_examples.Goals as goal

pub returns : goal.returns
returns c = examples_hold
