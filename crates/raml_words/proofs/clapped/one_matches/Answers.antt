use Rattle.raml_words.specs.Apps.{one_app}
use Rattle.raml_words.specs.Clapped.{now_of, one_text}
use Rattle.raml_words.proofs.Parsed.{are_simple, parsed}
use Rattle.raml_words.proofs.clapped.one_matches.Goals as goal

pub returns : goal.returns
returns c =
    parsed now_of one_app _ one_text _ c.in_ok-matches.matches c.one_text.result c.ok_or.result are_simple.one c.in_ok-one_command.ensures c.in_ok-matches.ensures c.one_text.ensures c.ok_or.ensures.value
