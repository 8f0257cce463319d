use Rattle.std.proofs.Common.{ap}
use Rattle.std.specs.Prelude.{slice_set}
use Rattle.lsp_server.proofs.Kept.{learns}
use Rattle.lsp_server.proofs.Answered.{known_at, published_at, on_err}
use Rattle.lsp_server.proofs.documents.publish_at.Goals as goal

pub returns-in_err-params-clause-kept : goal.returns-in_err-params-clause-kept
returns-in_err-params-clause-kept g c =
    let learnt = c.in_ok-learn.ensures.learnt in
    on_err c.from_residual-in_err-params.result
    (learns (g.L.Language.tells c.args.language.now) c.args.documents.now.items _ c.args.place c.index_mut.result.now learnt.0 c.requires c.index_mut.ensures.value
    learnt.1 (ap (slice_set c.args.documents.now.items c.args.place) learnt.2))

pub returns-in_err-send_published-clause-kept : goal.returns-in_err-send_published-clause-kept
returns-in_err-send_published-clause-kept g c =
    let learnt = c.in_ok-learn.ensures.learnt in
    on_err c.from_residual-in_err-send_published.result
    (learns (g.L.Language.tells c.args.language.now) c.args.documents.now.items _ c.args.place c.index_mut.result.now learnt.0 c.requires c.index_mut.ensures.value
    learnt.1 (ap (slice_set c.args.documents.now.items c.args.place) learnt.2))

pub returns-clause-published : goal.returns-clause-published
returns-clause-published g c document there =
    let tells = g.L.Language.tells c.args.language.now in
    let documents = c.args.documents.now.items in
    let known = known_at tells documents c.args.place c.index_mut.result.now c.learn.new.self c.index.result.now document c.requires c.index_mut.ensures.value
    c.in_ok-learn.ensures.learnt c.index.ensures there in
    published_at tells c.args.encoding documents c.args.place document c.learn.new.self c.index.result.now c.index_mut-2.result.now c.mark_published.new.self
    c.in_ok-params.params c.args.out.now.items c.send_published.new.out.items c.requires known c.in_ok-params.ensures.value c.index_mut-2.ensures.value
    c.mark_published.ensures c.in_ok-send_published.ensures.sent
