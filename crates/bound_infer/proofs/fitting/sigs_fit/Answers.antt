use Rattle.std.proofs.Common.{subst, arith}
use Rattle.std.proofs.lemmas.List.Elements.{All-more}
use Rattle.annot_types.specs.Read.{sig_of}
use Rattle.infer_spec.specs.Places.{SigFits}
use Rattle.bound_infer.proofs.Mapped.{all_of}
use Rattle.bound_infer.proofs.fitting.sigs_fit.Goals as goal

pub loop-index-preserved : goal.loop-index-preserved
loop-index-preserved c = All-more (λ s. SigFits 1 (sig_of s)) c.args.sigs.now c.loop-index.index c.index-sigs-index.result c.loop-index-test.true c.loop-index.invariant
    (subst (λ s. SigFits 1 (sig_of s)) c.index-sigs-index.is c.sig_fits.ensures)

pub returns : goal.returns
returns c =
    let l = c.loop-index-test.false in
    all_of (λ s. SigFits 1 (sig_of s)) c.args.sigs.now c.loop-index.index c.loop-index.invariant (λ q. omega (arith, q, l))
