use Rattle.std.proofs.Common.{ap, sym, subst, ◌∙◌, Option}
use Rattle.std.proofs.lemmas.Result.{on_ok_weaker}
use Rattle.lsp_language.specs.declared.insight.Insight.{Insight}
use Rattle.lsp_server.specs.State.{Open}
use Rattle.lsp_server.specs.Documents.{IsLearnt}
use Rattle.lsp_server.proofs.Kept.{learnt_already}
use Rattle.lsp_server.proofs.document.OpenDocument.learn.Goals as goal

pub returns-in-Some-clause-learnt : goal.returns-in-Some-clause-learnt
returns-in-Some-clause-learnt g c =
    learnt_already (g.L.Language.tells c.args.language.now) c.args.self.now c.in-Some.field-0 (ap (λ (d : Open). d.known) (sym c.self.view_is) ∙ c.in-Some.is)

pub returns-in-None-clause-learnt : goal.returns-in-None-clause-learnt
returns-in-None-clause-learnt g c =
    let none = ap (λ (d : Open). d.known) (sym c.self.view_is) ∙ c.in-None.is in
    let tells = g.L.Language.tells c.args.language.now in
    on_ok_weaker c.ask.result
    (λ told. (told.0, subst (λ (k : Option Insight). IsLearnt tells c.args.self.now k told.0) (sym none) told.1, told.2)) c.ask.ensures.learnt
