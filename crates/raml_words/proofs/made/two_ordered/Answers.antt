use Rattle.std.proofs.Common.{map, string_bytes, sym, ap, ap₂, subst, ◌∙◌}
use Rattle.raml_words.specs.Words.{texts}
use Rattle.raml_words.specs.Apps.{two_app}
use Rattle.raml_words.specs.Clapped.{taken_as, two_texts}
use Rattle.raml_words.specs.Asked.{TellsFault}
use Rattle.raml_words.proofs.Found.{two_law, some_pair}
use Rattle.raml_words.proofs.made.two_ordered.Goals as goal

pub returns-in-Ok : goal.returns-in-Ok
returns-in-Ok c =
    let words = ap (map string_bytes) c.deref.ensures.value ∙ c.in_ok-words.ensures in
    sym (two_law c.args.command.now (texts c.args.operands.now)) ∙ sym (ap (taken_as two_app two_texts) words) ∙ c.in-Ok.ensures
    ∙ ap₂ some_pair (sym c.in_ok-from_str-in-Ok.ensures.ok) (sym c.in_ok-from_str-in-Ok-2.ensures.ok)

pub returns : goal.returns
returns c =
    let words = ap (map string_bytes) c.deref.ensures.value ∙ c.in_ok-words.ensures in
    subst (TellsFault c.in-Err.fault) (ap (taken_as two_app two_texts) words ∙ two_law c.args.command.now (texts c.args.operands.now)) c.in-Err.ensures
