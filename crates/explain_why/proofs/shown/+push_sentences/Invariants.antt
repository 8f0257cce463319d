use Rattle.std.proofs.Common.{length}
use Rattle.explain_why.proofs.shown.+push_sentences.Given as goal

abbrev pub decreases-push_sentences : goal.decreases-push_sentences
decreases-push_sentences l = length l.sentences.now
