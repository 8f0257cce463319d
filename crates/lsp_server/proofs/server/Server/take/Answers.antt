use Rattle.std.proofs.lemmas.Result.{IfOk-weaker}
use Rattle.std.specs.Prelude.{option_map}
use Rattle.serde_json.specs.View.{view}
use Rattle.lsp_requests.specs.Read.{kind_view}
use Rattle.lsp_server.proofs.Taken.{says_of}
use Rattle.lsp_server.proofs.server.Server.take.Goals as goal

pub returns-clause-taken : goal.returns-clause-taken
returns-clause-taken g c =
    IfOk-weaker c.act.result _ _
    (λ flow acts. record {
      kind = kind_view c.in_ok-message.message.kind;
      params = option_map (λ params. view params.now) c.params.result;
      says = says_of c.args.content.now c.in_ok-message.message _ c.in_ok-message.ensures c.params.ensures;
      acts = acts;
    })
    c.act.ensures.acted
