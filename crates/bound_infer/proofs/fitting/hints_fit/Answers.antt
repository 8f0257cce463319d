use Rattle.std.proofs.Common.{subst, arith}
use Rattle.std.proofs.lemmas.List.Elements.{All-more}
use Rattle.annot_types.specs.Read.{hint_of}
use Rattle.infer_spec.specs.Places.{HintFits}
use Rattle.bound_infer.proofs.Mapped.{all_of}
use Rattle.bound_infer.proofs.fitting.hints_fit.Goals as goal

pub loop-index-preserved : goal.loop-index-preserved
loop-index-preserved c = All-more (λ h. HintFits 1 (hint_of h)) c.args.hints.now c.loop-index.index c.index-hints-index.result c.loop-index-test.true c.loop-index.invariant
    (subst (λ h. HintFits 1 (hint_of h)) c.index-hints-index.is c.hint_fits.ensures)

pub returns : goal.returns
returns c =
    let l = c.loop-index-test.false in
    all_of (λ h. HintFits 1 (hint_of h)) c.args.hints.now c.loop-index.index c.loop-index.invariant (λ q. omega (arith, q, l))
