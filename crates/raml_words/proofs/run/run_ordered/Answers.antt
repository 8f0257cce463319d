use Rattle.std.proofs.Common.{map, string_bytes, sym, ap, subst, ◌∙◌}
use Rattle.raml_words.specs.Words.{texts}
use Rattle.raml_words.specs.Sorting.{lent}
use Rattle.raml_words.specs.Apps.{run_app}
use Rattle.raml_words.specs.Clapped.{taken_as, run_texts, run_texts_of}
use Rattle.raml_words.specs.Made.{run_clapped, run_made}
use Rattle.raml_words.specs.Asked.{Tells, request_of}
use Rattle.raml_words.proofs.Telling.{made_of, fault_of_made}
use Rattle.raml_words.proofs.run.run_ordered.Goals as goal

pub returns-in-Ok : goal.returns-in-Ok
returns-in-Ok c =
    let words = ap (map string_bytes) c.deref.ensures.value ∙ c.in_ok-words.ensures in
    let found = run_clapped (lent c.args.steps) (lent c.args.cells) (lent c.args.degree) (texts c.args.operands.now) in
    subst (Tells request_of c.make_run.result) (made_of found (taken_as run_app run_texts (map string_bytes c.deref.result.now)) (run_texts_of c.in-Ok.texts) run_made (sym (ap (taken_as run_app run_texts) words)) c.in-Ok.ensures) c.make_run.ensures

pub returns : goal.returns
returns c =
    let words = ap (map string_bytes) c.deref.ensures.value ∙ c.in_ok-words.ensures in
    let found = run_clapped (lent c.args.steps) (lent c.args.cells) (lent c.args.degree) (texts c.args.operands.now) in
    fault_of_made c.in-Err.fault found (taken_as run_app run_texts (map string_bytes c.deref.result.now)) run_made (sym (ap (taken_as run_app run_texts) words)) c.in-Err.ensures
