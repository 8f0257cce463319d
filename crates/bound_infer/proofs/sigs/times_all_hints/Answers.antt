use Rattle.std.proofs.Common.{map, Vec, ap, ◌∙◌, subst}
use Rattle.std.specs.Global.{Global}
use Rattle.annot_types.specs.Holds.{times_hint}
use Rattle.annot_types.specs.Read.{hint_of, hints_of}
use Rattle.annot_types.specs.declared.block.Hint.{Hint}
use Rattle.bound_infer.specs.Fitting.{HintsFit}
use Rattle.bound_infer.proofs.Mapped.{list_more}
use Rattle.bound_infer.proofs.sigs.times_all_hints.Goals as goal

pub loop-index-preserved : goal.loop-index-preserved
loop-index-preserved c = list_more (λ (hs : Vec Hint Global). map (λ h. times_hint c.args.factor.now (hint_of h)) hs.items) hints_of (λ (hs : Vec Hint Global). HintsFit c.args.factor.now hs.items) c.args.lists.now
    c.loop-index.index c.index-lists-index.result c.loop-index.made.items _ c.in-Ok.hints c.loop-index-test.true c.index-lists-index.is c.loop-index.invariant.0 c.loop-index.invariant.1
    (c.in-Ok.ensures.made ∙ ap (map (λ h. times_hint c.args.factor.now (hint_of h))) c.deref.ensures.value) (subst (HintsFit c.args.factor.now) c.deref.ensures.value c.in-Ok.ensures.fit) c.in_ok-push-in-Ok.ensures.items
