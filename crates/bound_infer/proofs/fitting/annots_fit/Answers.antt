use Rattle.std.proofs.Common.{subst, arith}
use Rattle.std.proofs.lemmas.List.Elements.{All-more}
use Rattle.infer_spec.specs.Places.{EntriesFit}
use Rattle.bound_infer.proofs.Mapped.{all_of}
use Rattle.bound_infer.proofs.fitting.annots_fit.Goals as goal

pub loop-index-preserved : goal.loop-index-preserved
loop-index-preserved c = All-more (EntriesFit 1) c.args.annots.now c.loop-index.index c.index-annots-index.result c.loop-index-test.true c.loop-index.invariant
    (subst (EntriesFit 1) c.index-annots-index.is (subst (EntriesFit 1) c.entries.ensures.all c.entries_fit.ensures))

pub returns : goal.returns
returns c =
    let l = c.loop-index-test.false in
    all_of (EntriesFit 1) c.args.annots.now c.loop-index.index c.loop-index.invariant (λ q. omega (arith, q, l))
