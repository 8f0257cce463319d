use Rattle.std.proofs.Common.{sym, subst}
use Rattle.raml_words.specs.Words as w
use Rattle.raml_promise.specs.Outside.{Sound, store_of}
use Rattle.raml_promise.specs.Promise.{Answers}
use Rattle.raml_parts.specs.Parts.{Gives}
use Rattle.raml_top.proofs.requests.run_request.Goals as goal

pub returns-in-None-clause-gives : goal.returns-in-None-clause-gives
returns-in-None-clause-gives g c =
    let store = store_of (g.S.Store.holds c.args.store.now) (g.S.Store.faults c.args.store.now) (g.S.Store.faults c.run_answer.new.store) in
    subst (λ degree. Gives (Answers Sound store (w.Run c.args.file.now c.args.name.now c.args.input.now c.args.steps c.args.cells degree)) c.run_answer.result) (sym c.in-None.is) c.run_answer.ensures.gives

pub returns-in-Some-clause-gives : goal.returns-in-Some-clause-gives
returns-in-Some-clause-gives g c =
    let store = store_of (g.S.Store.holds c.args.store.now) (g.S.Store.faults c.args.store.now) (g.S.Store.faults c.bounded_answer.new.store) in
    subst (λ degree. Gives (Answers Sound store (w.Run c.args.file.now c.args.name.now c.args.input.now c.args.steps c.args.cells degree)) c.bounded_answer.result) (sym c.in-Some.is) c.bounded_answer.ensures.gives
