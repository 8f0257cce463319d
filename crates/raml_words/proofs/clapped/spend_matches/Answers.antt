use Rattle.raml_words.specs.Apps.{spend_app}
use Rattle.raml_words.specs.Clapped.{spend_texts, spend_texts_of}
use Rattle.raml_words.proofs.Parsed.{are_simple, parsed}
use Rattle.raml_words.proofs.clapped.spend_matches.Goals as goal

pub returns : goal.returns
returns c =
    parsed spend_texts_of spend_app _ spend_texts _ c.in_ok-matches.matches c.spend_texts.result c.ok_or.result are_simple.spend c.in_ok-spend_command.ensures c.in_ok-matches.ensures c.spend_texts.ensures c.ok_or.ensures.value
