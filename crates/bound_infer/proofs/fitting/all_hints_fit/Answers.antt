use Rattle.std.proofs.Common.{Vec, ap, ◌∙◌, subst, arith}
use Rattle.std.specs.Global.{Global}
use Rattle.std.proofs.lemmas.List.Elements.{All-more}
use Rattle.annot_types.specs.declared.block.Hint.{Hint}
use Rattle.bound_infer.specs.Fitting.{HintsFit}
use Rattle.bound_infer.proofs.Mapped.{all_of}
use Rattle.bound_infer.proofs.fitting.all_hints_fit.Goals as goal

pub loop-index-preserved : goal.loop-index-preserved
loop-index-preserved c = All-more (λ (hs : Vec Hint Global). HintsFit 1 hs.items) c.args.lists.now c.loop-index.index c.index-lists-index.result c.loop-index-test.true c.loop-index.invariant
    (subst (HintsFit 1) (c.deref.ensures.value ∙ ap (λ (hs : Vec Hint Global). hs.items) c.index-lists-index.is) c.hints_fit.ensures)

pub returns : goal.returns
returns c =
    let l = c.loop-index-test.false in
    all_of (λ (hs : Vec Hint Global). HintsFit 1 hs.items) c.args.lists.now c.loop-index.index c.loop-index.invariant (λ q. omega (arith, q, l))
