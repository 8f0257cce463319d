use Rattle.explain_sentences.specs.Read.{sentences_of}
use Rattle.explain_sentences.proofs.Listed.{site_next}
use Rattle.explain_sentences.proofs.site.add_sites.Goals as goal

pub loop-site-preserved : goal.loop-site-preserved
loop-site-preserved c =
    site_next c.args.sites.now c.loop-site.site-index c.site-item.result (sentences_of c.loop-site.sentences.items) _ _ c.loop-site-test.true
    c.site-item.is c.in_ok-add_site.ensures c.loop-site.invariant
