use Rattle.std.proofs.Common.{List, ℕ, IfOk, subst}
use Rattle.serde_json.specs.View.{view}
use Rattle.lsp_results.specs.Results.{IsResult}
use Rattle.lsp_server.specs.State.{Open}
use Rattle.lsp_server.proofs.document.OpenDocument.result_by.Goals as goal

pub returns-clause-value : goal.returns-clause-value
returns-clause-value g c =
    let tells = g.L.Language.tells c.args.language.now in
    let insight = c.args.insight.now in
    let text = c.self.inside.document.text in
    let answered = c.result_value.ensures.value in
    let by_uri = subst (λ (uri : List ℕ). IfOk c.result_value.result (λ v. IsResult tells c.args.encoding text uri insight c.args.ask (view v)))
    c.as_str.ensures.value answered in
    subst (λ (d : Open). IfOk c.result_value.result (λ v. IsResult tells c.args.encoding d.content.text d.uri insight c.args.ask (view v))) c.self.view_is by_uri
