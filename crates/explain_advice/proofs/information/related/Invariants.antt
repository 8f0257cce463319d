use Rattle.std.proofs.Common.{◌≡◌, ◌++◌, drop, map}
use Rattle.explain_sentences.specs.Read.{sentences_of}
use Rattle.explain_advice.specs.Information.{headed, relations_in}
use Rattle.explain_advice.proofs.information.related.Given as goal

abbrev pub invariant-loop-sentence : goal.invariant-loop-sentence
invariant-loop-sentence l =
    relations_in l.related.items ++ map (headed l.head) (sentences_of (drop l.sentence-index l.sentences))
    ≡ map (headed l.head) (sentences_of l.sentences)
