use Rattle.lsp_results.proofs.Plain.{results_plain}
use Rattle.lsp_results.proofs.result.result_value.Goals as goal

pub returns-clause-plain : goal.returns-clause-plain
returns-clause-plain g c =
    results_plain (g.L.Language.tells c.args.language.now) c.args.encoding c.args.document.now.text c.args.uri.now c.args.insight.now c.args.ask c.value_of.result
    c.value_of.ensures
