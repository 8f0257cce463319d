use Rattle.raml_words.specs.Apps.{count_app}
use Rattle.raml_words.specs.Clapped.{count_text, now_of}
use Rattle.raml_words.proofs.Parsed.{are_simple, parsed}
use Rattle.raml_words.proofs.clapped.count_matches.Goals as goal

pub returns : goal.returns
returns c =
    parsed now_of count_app _ count_text _ c.in_ok-matches.matches c.count_text.result c.ok_or.result are_simple.count c.in_ok-count_command.ensures c.in_ok-matches.ensures c.count_text.ensures c.ok_or.ensures.value
