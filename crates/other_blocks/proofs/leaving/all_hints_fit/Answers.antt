use Rattle.std.proofs.Common.{◌≡◌, Vec, ap, sym, ◌∙◌, map}
use Rattle.std.specs.List.{list_all}
use Rattle.std.specs.Global.{Global}
use Rattle.std.specs.Int.{w128}
use Rattle.std.proofs.lemmas.Int.{to_z-of_z}
use Rattle.std.proofs.lemmas.List.Folds.{list_all-map, list_all_at}
use Rattle.annot_types.specs.Read.{hint_of, hints_of}
use Rattle.annot_types.specs.declared.block.Hint.{Hint}
use Rattle.other_blocks.specs.Leaving.{hint_fits}
use Rattle.other_blocks.proofs.leaving.all_hints_fit.Goals as goal

pub returns-then-not-hints_fit : goal.returns-then-not-hints_fit
returns-then-not-hints_fit c =
    let f = c.args.factor in
    let tested : c.hints_fit.result ≡ list_all (hint_fits f) (map hint_of c.deref.result.now) = simp (to_z-of_z w128 _ c.ranges.factor) at c.hints_fit.ensures in
    let is = ap (λ (hs : Vec Hint Global). list_all (hint_fits f) (hints_of hs)) (sym c.hints-item.is)
    ∙ ap (λ hs. list_all (hint_fits f) (map hint_of hs)) (sym c.deref.ensures.value) ∙ sym tested ∙ c.if-not-hints_fit.true in
    sym (list_all-map (list_all (hint_fits f)) hints_of c.args.lists.now
    ∙ list_all_at (λ (hs : Vec Hint Global). list_all (hint_fits f) (hints_of hs)) c.args.lists.now c.loop-hints.hints-index c.hints-item.result c.loop-hints-test.true is)
