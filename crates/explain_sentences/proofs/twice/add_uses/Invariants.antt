use Rattle.std.proofs.Common.{◌≡◌, ◌++◌, drop}
use Rattle.explain_uses.specs.Read.{uses_of}
use Rattle.explain_sentences.specs.Sentences.{of_uses}
use Rattle.explain_sentences.specs.Read.{sentences_of}
use Rattle.explain_sentences.proofs.twice.add_uses.Given as goal

abbrev pub invariant-loop-later : goal.invariant-loop-later
invariant-loop-later l =
    sentences_of l.sentences.items ++ of_uses (uses_of (drop l.later-index l.uses))
    ≡ sentences_of l.fn.sentences.items ++ of_uses (uses_of l.uses)
