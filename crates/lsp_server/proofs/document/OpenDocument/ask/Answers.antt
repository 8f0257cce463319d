use Rattle.std.proofs.Common.{ap, subst, ◌∙◌}
use Rattle.lsp_server.specs.State.{Open}
use Rattle.lsp_server.specs.Documents.{learnt}
use Rattle.lsp_server.proofs.document.OpenDocument.ask.Goals as goal

pub returns-clause-learnt : goal.returns-clause-learnt
returns-clause-learnt g c =
    let insight = c.in_ok-insight.insight in
    let text_is = c.text.ensures ∙ ap (λ (d : Open). d.content.text) c.self.view_is in (
      insight,
      subst (λ text. (g.L.Language.tells c.args.language.now).insight text insight) text_is c.in_ok-insight.ensures,
      ap (λ (d : Open). learnt d insight) c.self.view_is,
    )
