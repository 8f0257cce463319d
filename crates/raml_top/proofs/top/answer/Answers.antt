use Rattle.std.proofs.Common.{◌≡◌, subst}
use Rattle.raml_words.specs.Words.{texts, Asks, Trial}
use Rattle.raml_words.proofs.Worded.{one_request}
use Rattle.raml_words.specs.Asked.{request_of}
use Rattle.refusals.specs.Line.{no_names}
use Rattle.raml_promise.specs.Outside.{Sound, store_of}
use Rattle.raml_promise.specs.Promise.{Answers}
use Rattle.raml_parts.specs.Parts.{WordsRefuse, OfTrial}
use Rattle.raml_parts.proofs.Stepping.{step_refused, step_goes}
use Rattle.raml_top.proofs.top.answer.Goals as goal

pub returns-in-Ok-clause-gives : goal.returns-in-Ok-clause-gives
returns-in-Ok-clause-gives g c =
    let words = texts c.args.words.now in
    let store = store_of (g.S.Store.holds c.args.store.now) (g.S.Store.faults c.args.store.now) (g.S.Store.faults c.request_answer.new.store) in
    step_goes no_names (WordsRefuse words) (Asks words) (λ request. Answers Sound store request) (request_of c.in-Ok.request) c.in-Ok.ensures.ok c.request_answer.result c.request_answer.ensures.gives

pub returns-in-Err-clause-gives : goal.returns-in-Err-clause-gives
returns-in-Err-clause-gives g c =
    let words = texts c.args.words.now in
    let store = store_of (g.S.Store.holds c.args.store.now) (g.S.Store.faults c.args.store.now) (g.S.Store.faults c.args.store.now) in
    step_refused no_names (WordsRefuse words) (Asks words) (λ request. Answers Sound store request) c.in-Err.refusal c.in-Err.ensures.err

pub returns-in-Ok-clause-still : goal.returns-in-Ok-clause-still
returns-in-Ok-clause-still g c count asks =
    subst (λ request. OfTrial request (c.request_answer.new.store ≡ c.args.store.now)) (one_request (texts c.args.words.now) (request_of c.in-Ok.request) (Trial count) c.in-Ok.ensures.ok asks)
    c.request_answer.ensures.still
