use Rattle.lsp_results.proofs.Plain.{plain_by, initialized_plain}
use Rattle.lsp_results.proofs.capability.initialized_value.Goals as goal

pub returns-clause-plain : goal.returns-clause-plain
returns-clause-plain c = plain_by c.initialized.result _ (initialized_plain c.args.encoding) c.initialized.ensures
