use Rattle.std.proofs.Common.{sym, subst}
use Rattle.refusal_text.specs.declared.task.Analysed.TheVariants as analysed
use Rattle.std.specs.Prelude.{string_bytes}
use Rattle.raml_words.specs.Words as w
use Rattle.raml_words.specs.Asked.{request_of}
use Rattle.raml_promise.specs.Outside.{Sound, store_of}
use Rattle.raml_promise.specs.Steps.{OfProgram}
use Rattle.raml_promise.specs.Promise.{Answers, ListsTypes, ListsCode, Analyses, Certifies, Verifies}
use Rattle.raml_parts.specs.Parts.{Gives}
use Rattle.raml_top.proofs.requests.request_answer.Goals as goal

pub returns-in-Types-clause-gives : goal.returns-in-Types-clause-gives
returns-in-Types-clause-gives g c =
    let store = store_of (g.S.Store.holds c.args.store.now) (g.S.Store.faults c.args.store.now) (g.S.Store.faults c.types_answer.new.store) in
    subst (λ request. Gives (Answers Sound store (request_of request)) c.types_answer.result) (sym c.in-Types.is)
    (subst (λ file. Gives (OfProgram Sound store analysed.Program file (ListsTypes Sound)) c.types_answer.result) c.deref.ensures c.types_answer.ensures.gives)

pub returns-in-Code-clause-gives : goal.returns-in-Code-clause-gives
returns-in-Code-clause-gives g c =
    let store = store_of (g.S.Store.holds c.args.store.now) (g.S.Store.faults c.args.store.now) (g.S.Store.faults c.code_answer.new.store) in
    subst (λ request. Gives (Answers Sound store (request_of request)) c.code_answer.result) (sym c.in-Code.is)
    (subst (λ file. Gives (OfProgram Sound store analysed.Program file (ListsCode Sound)) c.code_answer.result) c.deref-in-Code.ensures c.code_answer.ensures.gives)

pub returns-in-Analyse-clause-gives : goal.returns-in-Analyse-clause-gives
returns-in-Analyse-clause-gives g c =
    let store = store_of (g.S.Store.holds c.args.store.now) (g.S.Store.faults c.args.store.now) (g.S.Store.faults c.analyse_answer.new.store) in
    subst (λ request. Gives (Answers Sound store (request_of request)) c.analyse_answer.result) (sym c.in-Analyse.is)
    (subst (λ file. Gives (OfProgram Sound store analysed.Program file (Analyses Sound c.in-Analyse.degree c.in-Analyse.rule)) c.analyse_answer.result) c.deref-in-Analyse.ensures c.analyse_answer.ensures.gives)

pub returns-in-Certify-clause-gives : goal.returns-in-Certify-clause-gives
returns-in-Certify-clause-gives g c =
    let store = store_of (g.S.Store.holds c.args.store.now) (g.S.Store.faults c.args.store.now) (g.S.Store.faults c.certify_answer.new.store) in
    subst (λ request. Gives (Answers Sound store (request_of request)) c.certify_answer.result) (sym c.in-Certify.is)
    (subst (λ file. Gives (OfProgram Sound store analysed.Program file (Certifies Sound c.in-Certify.degree c.in-Certify.rule)) c.certify_answer.result) c.deref-in-Certify.ensures c.certify_answer.ensures.gives)

pub returns-in-Verify-clause-gives : goal.returns-in-Verify-clause-gives
returns-in-Verify-clause-gives g c =
    let store = store_of (g.S.Store.holds c.args.store.now) (g.S.Store.faults c.args.store.now) (g.S.Store.faults c.verify_answer.new.store) in
    subst (λ request. Gives (Answers Sound store (request_of request)) c.verify_answer.result) (sym c.in-Verify.is)
    (subst (λ file. Gives (OfProgram Sound store analysed.Program file (Verifies Sound store (string_bytes c.in-Verify.certificate))) c.verify_answer.result) c.deref-in-Verify.ensures
    (subst (λ certificate. Gives (OfProgram Sound store analysed.Program c.deref-in-Verify.result.now (Verifies Sound store certificate)) c.verify_answer.result) c.deref-in-Verify-2.ensures c.verify_answer.ensures.gives))

pub returns-in-Run-clause-gives : goal.returns-in-Run-clause-gives
returns-in-Run-clause-gives g c =
    let store = store_of (g.S.Store.holds c.args.store.now) (g.S.Store.faults c.args.store.now) (g.S.Store.faults c.run_request.new.store) in
    subst (λ request. Gives (Answers Sound store (request_of request)) c.run_request.result) (sym c.in-Run.is)
    (subst (λ file. Gives (Answers Sound store (w.Run file (string_bytes c.in-Run.name) (string_bytes c.in-Run.input) c.in-Run.steps c.in-Run.cells c.in-Run.degree)) c.run_request.result) c.deref-in-Run.ensures
    (subst (λ name. Gives (Answers Sound store (w.Run c.deref-in-Run.result.now name (string_bytes c.in-Run.input) c.in-Run.steps c.in-Run.cells c.in-Run.degree)) c.run_request.result) c.deref-in-Run-2.ensures
    (subst (λ told. Gives (Answers Sound store (w.Run c.deref-in-Run.result.now c.deref-in-Run-2.result.now told c.in-Run.steps c.in-Run.cells c.in-Run.degree)) c.run_request.result) c.deref-in-Run-3.ensures c.run_request.ensures.gives)))

pub returns-in-Priced-clause-gives : goal.returns-in-Priced-clause-gives
returns-in-Priced-clause-gives g c =
    let store = store_of (g.S.Store.holds c.args.store.now) (g.S.Store.faults c.args.store.now) (g.S.Store.faults c.priced_answer.new.store) in
    subst (λ request. Gives (Answers Sound store (request_of request)) c.priced_answer.result) (sym c.in-Priced.is)
    (subst (λ told. Gives (Answers Sound store (w.Priced told (string_bytes c.in-Priced.prices) c.in-Priced.degree)) c.priced_answer.result) c.deref-in-Priced.ensures
    (subst (λ told. Gives (Answers Sound store (w.Priced c.deref-in-Priced.result.now told c.in-Priced.degree)) c.priced_answer.result) c.deref-in-Priced-2.ensures c.priced_answer.ensures.gives))

pub returns-in-Spend-clause-gives : goal.returns-in-Spend-clause-gives
returns-in-Spend-clause-gives g c =
    let store = store_of (g.S.Store.holds c.args.store.now) (g.S.Store.faults c.args.store.now) (g.S.Store.faults c.spend_answer.new.store) in
    subst (λ request. Gives (Answers Sound store (request_of request)) c.spend_answer.result) (sym c.in-Spend.is)
    (subst (λ told. Gives (Answers Sound store (w.Spend told (string_bytes c.in-Spend.prices) (string_bytes c.in-Spend.name) (string_bytes c.in-Spend.input) c.in-Spend.steps c.in-Spend.cells)) c.spend_answer.result) c.deref-in-Spend.ensures
    (subst (λ told. Gives (Answers Sound store (w.Spend c.deref-in-Spend.result.now told (string_bytes c.in-Spend.name) (string_bytes c.in-Spend.input) c.in-Spend.steps c.in-Spend.cells)) c.spend_answer.result) c.deref-in-Spend-2.ensures
    (subst (λ told. Gives (Answers Sound store (w.Spend c.deref-in-Spend.result.now c.deref-in-Spend-2.result.now told (string_bytes c.in-Spend.input) c.in-Spend.steps c.in-Spend.cells)) c.spend_answer.result) c.deref-in-Spend-3.ensures
    (subst (λ told. Gives (Answers Sound store (w.Spend c.deref-in-Spend.result.now c.deref-in-Spend-2.result.now c.deref-in-Spend-3.result.now told c.in-Spend.steps c.in-Spend.cells)) c.spend_answer.result) c.deref-in-Spend-4.ensures c.spend_answer.ensures.gives))))

pub returns-in-Compare-clause-gives : goal.returns-in-Compare-clause-gives
returns-in-Compare-clause-gives g c =
    let store = store_of (g.S.Store.holds c.args.store.now) (g.S.Store.faults c.args.store.now) (g.S.Store.faults c.compare_answer.new.store) in
    subst (λ request. Gives (Answers Sound store (request_of request)) c.compare_answer.result) (sym c.in-Compare.is)
    (subst (λ told. Gives (Answers Sound store (w.Compare told (string_bytes c.in-Compare.other) c.in-Compare.degree)) c.compare_answer.result) c.deref-in-Compare.ensures
    (subst (λ told. Gives (Answers Sound store (w.Compare c.deref-in-Compare.result.now told c.in-Compare.degree)) c.compare_answer.result) c.deref-in-Compare-2.ensures c.compare_answer.ensures.gives))

pub returns-in-Contract-clause-gives : goal.returns-in-Contract-clause-gives
returns-in-Contract-clause-gives g c =
    let store = store_of (g.S.Store.holds c.args.store.now) (g.S.Store.faults c.args.store.now) (g.S.Store.faults c.contract_answer.new.store) in
    subst (λ request. Gives (Answers Sound store (request_of request)) c.contract_answer.result) (sym c.in-Contract.is)
    (subst (λ told. Gives (Answers Sound store (w.Contract told (string_bytes c.in-Contract.bounds) c.in-Contract.degree)) c.contract_answer.result) c.deref-in-Contract.ensures
    (subst (λ told. Gives (Answers Sound store (w.Contract c.deref-in-Contract.result.now told c.in-Contract.degree)) c.contract_answer.result) c.deref-in-Contract-2.ensures c.contract_answer.ensures.gives))

pub returns-in-Powers-clause-gives : goal.returns-in-Powers-clause-gives
returns-in-Powers-clause-gives g c =
    let store = store_of (g.S.Store.holds c.args.store.now) (g.S.Store.faults c.args.store.now) (g.S.Store.faults c.powers_answer.new.store) in
    subst (λ request. Gives (Answers Sound store (request_of request)) c.powers_answer.result) (sym c.in-Powers.is)
    (subst (λ told. Gives (Answers Sound store (w.Powers told c.in-Powers.degree)) c.powers_answer.result) c.deref-in-Powers.ensures c.powers_answer.ensures.gives)

pub returns-in-Trial-clause-gives : goal.returns-in-Trial-clause-gives
returns-in-Trial-clause-gives g c =
    let store = store_of (g.S.Store.holds c.args.store.now) (g.S.Store.faults c.args.store.now) (g.S.Store.faults c.args.store.now) in
    subst (λ request. Gives (Answers Sound store (request_of request)) c.trial.result) (sym c.in-Trial.is) c.trial.ensures
