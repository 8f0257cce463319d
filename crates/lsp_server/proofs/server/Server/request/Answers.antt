use Rattle.lsp_server.specs.Requests.{answer_view}
use Rattle.lsp_server.proofs.Answered.{as_before, is_answered, on_err}
use Rattle.lsp_server.proofs.server.Server.request.Goals as goal

pub returns-in_err-answer-clause-kept : goal.returns-in_err-answer-clause-kept
returns-in_err-answer-clause-kept g c =
    on_err c.from_residual.result (as_before (g.L.Language.tells c.args.language.now) _ c.args.self.now c.answer.new.documents.items c.self.view_is c.answer.ensures.kept)

pub returns-in_err-send_response-clause-kept : goal.returns-in_err-send_response-clause-kept
returns-in_err-send_response-clause-kept g c =
    on_err _ (as_before (g.L.Language.tells c.args.language.now) _ c.args.self.now c.answer.new.documents.items c.self.view_is c.answer.ensures.kept)

pub returns-clause-answered : goal.returns-clause-answered
returns-clause-answered g c = (
  answer_view c.in_ok-answer.answer,
  is_answered (g.L.Language.tells c.args.language.now) _ c.args.self.now c.after-self-inside.result c.encoding_after-self-inside.result c.answer.new.documents.items c.args.method _ _
      c.self.view_is c.in_ok-answer.ensures.answers c.after-self-inside.ensures c.encoding_after-self-inside.ensures,
  c.in_ok-send_response.ensures.sent,
)
