use Rattle.std.proofs.Common.{sym, ap, subst, ◌∙◌, string_bytes}
use Rattle.std.specs.Prelude.{option_map}
use Rattle.serde_json.specs.View.{view}
use Rattle.lsp_requests.specs.Read.{id_view, kind_view}
use Rattle.lsp_requests.specs.declared.message.Kind.{Kind}
use Rattle.lsp_server.specs.Life.{method_of}
use Rattle.lsp_server.specs.Protocol.{IsActed}
use Rattle.lsp_server.specs.declared.life.Flow.TheVariants.{GoOn}
use Rattle.lsp_server.proofs.Answered.{acted_request, acted_malformed}
use Rattle.lsp_server.proofs.server.Server.act.Goals as goal

pub returns-in_ok-request-in-Request-clause-acted : goal.returns-in_ok-request-in-Request-clause-acted
returns-in_ok-request-in-Request-clause-acted g c =
    let tells = g.L.Language.tells c.args.language.now in
    let params = option_map (λ params. view params.now) c.args.params in
    let method_is = c.method_of.ensures ∙ ap method_of c.as_str.ensures.value in
    subst (λ (k : Kind). IsActed tells c.args.self.now c.request.new.self (kind_view k) params c.args.out.now.items c.request.new.out.items GoOn) (sym c.in-Request.is)
    (acted_request tells c.args.self.now c.request.new.self (id_view c.in-Request.id) (string_bytes c.in-Request.name) c.method_of.result params
    c.args.out.now.items c.request.new.out.items method_is c.in_ok-request-in-Request.ensures.answered)

pub returns-in_ok-send_error-in-Malformed-clause-acted : goal.returns-in_ok-send_error-in-Malformed-clause-acted
returns-in_ok-send_error-in-Malformed-clause-acted g c =
    let tells = g.L.Language.tells c.args.language.now in
    let params = option_map (λ params. view params.now) c.args.params in
    subst (λ (k : Kind). IsActed tells c.args.self.now c.args.self.now (kind_view k) params c.args.out.now.items c.send_error.new.out.items GoOn) (sym c.in-Malformed.is)
    (acted_malformed tells c.args.self.now c.in-Malformed.code params c.args.out.now.items c.send_error.new.out.items c.in_ok-send_error-in-Malformed.ensures.sent)
