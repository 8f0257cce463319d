use Rattle.lsp_documents.proofs.Computed.{examples_hold}
use Rattle.lsp_documents.proofs.laws.small_examples.Goals as goal

pub returns : goal.returns
returns c = examples_hold
