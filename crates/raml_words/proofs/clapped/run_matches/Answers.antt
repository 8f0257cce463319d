use Rattle.raml_words.specs.Apps.{run_app}
use Rattle.raml_words.specs.Clapped.{run_texts, run_texts_of}
use Rattle.raml_words.proofs.Parsed.{are_simple, parsed}
use Rattle.raml_words.proofs.clapped.run_matches.Goals as goal

pub returns : goal.returns
returns c =
    parsed run_texts_of run_app _ run_texts _ c.in_ok-matches.matches c.run_texts.result c.ok_or.result are_simple.run c.in_ok-run_command.ensures c.in_ok-matches.ensures c.run_texts.ensures c.ok_or.ensures.value
