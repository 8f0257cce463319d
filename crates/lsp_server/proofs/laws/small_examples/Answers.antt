use Rattle.lsp_server.proofs.Computed.{examples_hold}
use Rattle.lsp_server.proofs.laws.small_examples.Goals as goal

pub returns : goal.returns
returns c = examples_hold
