use Rattle.raml_words.specs.Apps.{two_app}
use Rattle.raml_words.specs.Clapped.{pair_of, two_texts}
use Rattle.raml_words.proofs.Parsed.{are_simple, parsed}
use Rattle.raml_words.proofs.clapped.two_matches.Goals as goal

pub returns : goal.returns
returns c =
    parsed pair_of two_app _ two_texts _ c.in_ok-matches.matches c.two_texts.result c.ok_or.result are_simple.two c.in_ok-two_command.ensures c.in_ok-matches.ensures c.two_texts.ensures c.ok_or.ensures.value
