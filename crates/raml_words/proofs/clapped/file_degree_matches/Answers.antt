use Rattle.raml_words.specs.Apps.{file_degree_app}
use Rattle.raml_words.specs.Clapped.{degree_texts, one_text, pair_of}
use Rattle.raml_words.proofs.Parsed.{are_simple, parsed}
use Rattle.raml_words.proofs.clapped.file_degree_matches.Goals as goal

pub returns : goal.returns
returns c =
    parsed pair_of file_degree_app _ (degree_texts one_text) _ c.in_ok-matches.matches c.file_degree_texts.result c.ok_or.result are_simple.file_degree c.in_ok-file_degree_command.ensures c.in_ok-matches.ensures c.file_degree_texts.ensures c.ok_or.ensures.value
