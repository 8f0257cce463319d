use Rattle.std.proofs.Common.{Some, map, string_bytes, sym, ap, subst, ◌∙◌}
use Rattle.raml_words.specs.Words.{texts}
use Rattle.raml_words.specs.Apps.{one_app}
use Rattle.raml_words.specs.Clapped.{taken_as, one_text}
use Rattle.raml_words.specs.Asked.{TellsFault}
use Rattle.raml_words.proofs.Found.{one_law}
use Rattle.raml_words.proofs.made.one_ordered.Goals as goal

pub returns-in-Ok : goal.returns-in-Ok
returns-in-Ok c =
    let words = ap (map string_bytes) c.deref.ensures.value ∙ c.in_ok-words.ensures in
    sym (one_law c.args.command.now (texts c.args.operands.now)) ∙ sym (ap (taken_as one_app one_text) words) ∙ c.in-Ok.ensures ∙ ap Some (sym c.in_ok-from_str-in-Ok.ensures.ok)

pub returns : goal.returns
returns c =
    let words = ap (map string_bytes) c.deref.ensures.value ∙ c.in_ok-words.ensures in
    subst (TellsFault c.in-Err.fault) (ap (taken_as one_app one_text) words ∙ one_law c.args.command.now (texts c.args.operands.now)) c.in-Err.ensures
