use Rattle.lsp_server.proofs.Answered.{as_before, on_err}
use Rattle.lsp_server.proofs.server.Server.settle.Goals as goal

pub returns-in_err-publish_at-in-Some-clause-kept : goal.returns-in_err-publish_at-in-Some-clause-kept
returns-in_err-publish_at-in-Some-clause-kept g c =
    on_err _ (as_before (g.L.Language.tells c.args.language.now) _ c.args.self.now c.publish_at.new.documents.items c.self.view_is c.in_err-publish_at-in-Some.ensures.kept)
