use Rattle.std.proofs.Common.{ap}
use Rattle.std.specs.Prelude.{slice_set}
use Rattle.lsp_server.proofs.Kept.{learns}
use Rattle.lsp_server.proofs.Answered.{known_at, answered_at}
use Rattle.lsp_server.proofs.documents.answer_at.Goals as goal

pub returns-clause-answers : goal.returns-clause-answers
returns-clause-answers g c document there =
    let tells = g.L.Language.tells c.args.language.now in
    let documents = c.args.documents.now.items in
    let known = known_at tells documents c.args.place c.index_mut.result.now c.learn.new.self c.index.result.now document c.requires c.index_mut.ensures.value
    c.in_ok-learn.ensures.learnt c.index.ensures there in
    answered_at tells c.args.encoding c.args.ask documents c.args.place document c.learn.new.self c.index.result.now c.result.result known c.result.ensures.value

pub returns-clause-kept : goal.returns-clause-kept
returns-clause-kept g c =
    let learnt = c.in_ok-learn.ensures.learnt in
    learns (g.L.Language.tells c.args.language.now) c.args.documents.now.items _ c.args.place c.index_mut.result.now learnt.0 c.requires c.index_mut.ensures.value
    learnt.1 (ap (slice_set c.args.documents.now.items c.args.place) learnt.2)
