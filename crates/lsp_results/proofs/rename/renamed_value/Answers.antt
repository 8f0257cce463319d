use Rattle.lsp_results.proofs.Plain.{renamed_plain}
use Rattle.lsp_results.proofs.rename.renamed_value.Goals as goal

pub returns-clause-plain : goal.returns-clause-plain
returns-clause-plain g c =
    renamed_plain (g.L.Language.tells c.args.language.now) c.args.encoding c.args.document.now.text c.args.uri.now c.args.position c.args.name.now c.answer_of.result
    c.answer_of.ensures
