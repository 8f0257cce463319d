use Rattle.raml_words.specs.Apps.{files_degree_app}
use Rattle.raml_words.specs.Clapped.{degree_texts, files_texts_of, two_texts}
use Rattle.raml_words.proofs.Parsed.{are_simple, parsed}
use Rattle.raml_words.proofs.clapped.files_degree_matches.Goals as goal

pub returns : goal.returns
returns c =
    parsed files_texts_of files_degree_app _ (degree_texts two_texts) _ c.in_ok-matches.matches c.files_degree_texts.result c.ok_or.result are_simple.files_degree c.in_ok-files_degree_command.ensures c.in_ok-matches.ensures c.files_degree_texts.ensures c.ok_or.ensures.value
