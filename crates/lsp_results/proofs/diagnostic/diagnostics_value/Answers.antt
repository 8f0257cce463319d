use Rattle.lsp_results.proofs.Plain.{plain_by, diagnostics_plain}
use Rattle.lsp_results.proofs.diagnostic.diagnostics_value.Goals as goal

pub returns-clause-plain : goal.returns-clause-plain
returns-clause-plain c =
    plain_by c.all_diagnostics_value.result _ (diagnostics_plain c.args.encoding c.args.document.now.text c.args.uri.now c.args.diagnostics.now)
    c.all_diagnostics_value.ensures
