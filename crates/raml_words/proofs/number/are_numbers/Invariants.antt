use Rattle.std.proofs.Common.{◌≡◌, drop}
use Rattle.std.specs.List.{list_all}
use Rattle.raml_words.specs.Words.{texts}
use Rattle.raml_words.specs.Sorting.{is_number}
use Rattle.raml_words.proofs.number.are_numbers.Given as goal

abbrev pub invariant-loop-word : goal.invariant-loop-word
invariant-loop-word l = list_all is_number (texts l.words) ≡ list_all is_number (texts (drop l.word-index l.words))
