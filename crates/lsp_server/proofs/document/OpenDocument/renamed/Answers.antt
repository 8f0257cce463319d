use Rattle.std.proofs.Common.{List, ℕ, IfOk, subst}
use Rattle.lsp_results.specs.Answers.{answer_view}
use Rattle.lsp_results.specs.Renames.{IsRenamed}
use Rattle.lsp_server.specs.State.{Open}
use Rattle.lsp_server.proofs.document.OpenDocument.renamed.Goals as goal

pub returns-clause-answer : goal.returns-clause-answer
returns-clause-answer g c =
    let tells = g.L.Language.tells c.args.language.now in
    let position = c.args.position in
    let name = c.args.name.now in
    let text = c.self.inside.document.text in
    let by_uri = subst (λ (uri : List ℕ). IfOk c.renamed_value.result (λ a. IsRenamed tells c.args.encoding text uri position name (answer_view a)))
    c.as_str.ensures.value c.renamed_value.ensures.answer in
    subst (λ (d : Open). IfOk c.renamed_value.result (λ a. IsRenamed tells c.args.encoding d.content.text d.uri position name (answer_view a))) c.self.view_is by_uri
