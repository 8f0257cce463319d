use Rattle.std.proofs.Common.{map, string_bytes, sym, ap, subst, ◌∙◌}
use Rattle.raml_words.specs.Words.{texts}
use Rattle.raml_words.specs.Sorting.{lent}
use Rattle.raml_words.specs.Apps.{spend_app}
use Rattle.raml_words.specs.Clapped.{taken_as, spend_texts, spend_texts_of}
use Rattle.raml_words.specs.Made.{spend_clapped, spend_made}
use Rattle.raml_words.specs.Asked.{Tells, request_of}
use Rattle.raml_words.proofs.Telling.{made_of, fault_of_made}
use Rattle.raml_words.proofs.spend.spend_ordered.Goals as goal

pub returns-in-Ok : goal.returns-in-Ok
returns-in-Ok c =
    let words = ap (map string_bytes) c.deref.ensures.value ∙ c.in_ok-words.ensures in
    let found = spend_clapped (lent c.args.steps) (lent c.args.cells) (texts c.args.operands.now) in
    subst (Tells request_of c.make_spend.result) (made_of found (taken_as spend_app spend_texts (map string_bytes c.deref.result.now)) (spend_texts_of c.in-Ok.texts) spend_made (sym (ap (taken_as spend_app spend_texts) words)) c.in-Ok.ensures) c.make_spend.ensures

pub returns : goal.returns
returns c =
    let words = ap (map string_bytes) c.deref.ensures.value ∙ c.in_ok-words.ensures in
    let found = spend_clapped (lent c.args.steps) (lent c.args.cells) (texts c.args.operands.now) in
    fault_of_made c.in-Err.fault found (taken_as spend_app spend_texts (map string_bytes c.deref.result.now)) spend_made (sym (ap (taken_as spend_app spend_texts) words)) c.in-Err.ensures
