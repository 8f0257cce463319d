use Rattle.annot_types.specs.Holds.{times}
use Rattle.infer_spec.specs.Places.{EntriesFit}
use Rattle.bound_infer.proofs.Mapped.{plain_more}
use Rattle.bound_infer.proofs.sigs.times_annots.Goals as goal

pub loop-index-preserved : goal.loop-index-preserved
loop-index-preserved c = plain_more (times c.args.factor.now) (EntriesFit c.args.factor.now) c.args.annots.now c.loop-index.index c.index-annots-index.result c.loop-index.made.items _ c.in-Ok.annot
    c.loop-index-test.true c.index-annots-index.is c.loop-index.invariant.0 c.loop-index.invariant.1 c.in-Ok.ensures.made c.in-Ok.ensures.fit c.in_ok-push-in-Ok.ensures.items
