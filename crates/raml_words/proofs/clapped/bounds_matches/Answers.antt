use Rattle.raml_words.specs.Apps.{bounds_app}
use Rattle.raml_words.specs.Clapped.{bounds_texts, bounds_texts_of}
use Rattle.raml_words.proofs.Parsed.{are_simple, parsed}
use Rattle.raml_words.proofs.clapped.bounds_matches.Goals as goal

pub returns : goal.returns
returns c =
    parsed bounds_texts_of bounds_app _ bounds_texts _ c.in_ok-matches.matches c.bounds_texts.result c.ok_or.result are_simple.bounds c.in_ok-bounds_command.ensures c.in_ok-matches.ensures c.bounds_texts.ensures c.ok_or.ensures.value
