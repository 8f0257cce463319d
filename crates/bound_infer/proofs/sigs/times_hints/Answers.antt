use Rattle.annot_types.specs.Holds.{times_hint}
use Rattle.annot_types.specs.Read.{hint_of}
use Rattle.infer_spec.specs.Places.{HintFits}
use Rattle.bound_infer.proofs.Mapped.{list_more}
use Rattle.bound_infer.proofs.sigs.times_hints.Goals as goal

pub loop-index-preserved : goal.loop-index-preserved
loop-index-preserved c = list_more (λ h. times_hint c.args.factor.now (hint_of h)) hint_of (λ h. HintFits c.args.factor.now (hint_of h)) c.args.hints.now c.loop-index.index c.index-hints-index.result c.loop-index.made.items _ c.in-Ok.hint
    c.loop-index-test.true c.index-hints-index.is c.loop-index.invariant.0 c.loop-index.invariant.1 c.in-Ok.ensures.made c.in-Ok.ensures.fit c.in_ok-push-in-Ok.ensures.items
