use Rattle.explain_sentences.specs.Read.{sentences_of}
use Rattle.explain_sentences.proofs.Listed.{use_next}
use Rattle.explain_sentences.proofs.twice.add_uses.Goals as goal

pub loop-later-preserved : goal.loop-later-preserved
loop-later-preserved c =
    use_next c.args.uses.now c.loop-later.later-index c.later-item.result (sentences_of c.loop-later.sentences.items) _ _ c.loop-later-test.true
    c.later-item.is c.in_ok-add_use.ensures c.loop-later.invariant
