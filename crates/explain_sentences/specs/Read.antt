-- What the code's sentences are as plain data.
use Rattle.std.specs.Prelude.{List, map, Option, option_map, string_bytes}
use Rattle.std.specs.Borrow.{Bor}
use Rattle.raml_syntax.specs.Tree.{Parameter}
use Rattle.raml_syntax.specs.Read.{parameter_of}
use Rattle.raml_syntax.specs.declared.program.Param.{Param}
use Rattle.explain_degrees.specs.declared.finding.Findings.{Findings}
use Rattle.explain_sentences.specs.Sentences as s
use Rattle.explain_sentences.specs.declared.sentence.Sentence.{Sentence}

abbrev pub sentence_of : Sentence → s.Sentence
sentence_of sentence = record { at = sentence.at.0; text = string_bytes sentence.text }

abbrev pub sentences_of : List Sentence → List s.Sentence
sentences_of = map sentence_of

abbrev pub lent : Option (Bor Findings) → Option Findings
lent = option_map (λ (x : Bor Findings). x.now)

abbrev pub parameter_in : Option (Bor Param) → Option Parameter
parameter_in = option_map (λ (p : Bor Param). parameter_of p.now)
