use Rattle.std.proofs.Common.{Err, ap, sym, ◌∙◌, subst, arith}
use Rattle.annot_types.specs.Holds.{times_sig}
use Rattle.annot_types.specs.Read.{sig_of}
use Rattle.infer_spec.specs.Places.{SigFits}
use Rattle.bound_infer.proofs.Mapped.{list_more, all_of, same_fault}
use Rattle.bound_infer.proofs.sigs.times_sigs.Goals as goal

pub loop-index-preserved : goal.loop-index-preserved
loop-index-preserved c = list_more (λ s. times_sig c.args.factor.now (sig_of s)) sig_of (λ s. SigFits c.args.factor.now (sig_of s)) c.args.sigs.now c.loop-index.index c.index-sigs-index.result c.loop-index.made.items _ c.in-Ok.sig
    c.loop-index-test.true c.index-sigs-index.is c.loop-index.invariant.0 c.loop-index.invariant.1 c.in-Ok.ensures.made c.in-Ok.ensures.fit c.in_ok-push-in-Ok.ensures.items

pub returns-in-Err-clause-leaves : goal.returns-in-Err-clause-leaves
returns-in-Err-clause-leaves c = λ e all.
    c.times_sig.ensures.leaves (c.in-Err.is ∙ ap Err (same_fault _ _ e))
    (subst (λ s. SigFits c.args.factor.now (sig_of s)) (sym c.index-sigs-index.is) (all c.loop-index.index c.index-sigs-index.result c.loop-index-test.true))

pub returns-clause-fit : goal.returns-clause-fit
returns-clause-fit c =
    let l = c.loop-index-test.false in
    all_of (λ s. SigFits c.args.factor.now (sig_of s)) c.args.sigs.now c.loop-index.index c.loop-index.invariant.1 (λ q. omega (arith, q, l))
