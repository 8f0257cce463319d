use Rattle.std.proofs.Common.{◌≡◌, ◌++◌, ap, ◌∙◌, map, subst}
use Rattle.std.proofs.lemmas.List.{map-append}
use Rattle.std.proofs.lemmas.Result.{IfOk-weaker}
use Rattle.tuple_ranks.specs.Columns.{table_by}
use Rattle.tuple_ranks.specs.Read.{items_of, lists_of}
use Rattle.tuple_ranks.specs.Spots.{AreLarge}
use Rattle.tuple_ranks.proofs.spots.ranks_of_both.Goals as goal

pub returns-clause-is : goal.returns-clause-is
returns-clause-is c =
    let others = ap lists_of c.as_slice.ensures ∙ c.in_ok-others.ensures in
    let both = ap lists_of (c.as_slice-2.ensures ∙ c.in_ok-extend_from_slice.ensures.ok) ∙ map-append _ c.in_ok-sizes.sizes.items c.as_slice.result.now ∙ (λ i. c.in_ok-sizes.ensures i ++ others i) in
    IfOk-weaker c.new.result _ (λ ranks. ranks ≡ table_by (map items_of c.args.first.now ++ map items_of c.args.second.now) c.args.d) (λ ranks is. is ∙ ap (λ pss. table_by pss c.args.d) both) c.new.ensures.is

pub returns-clause-many : goal.returns-clause-many
returns-clause-many c = λ e.
    let others = ap lists_of c.as_slice.ensures ∙ c.in_ok-others.ensures in
    let both = ap lists_of (c.as_slice-2.ensures ∙ c.in_ok-extend_from_slice.ensures.ok) ∙ map-append _ c.in_ok-sizes.sizes.items c.as_slice.result.now ∙ (λ i. c.in_ok-sizes.ensures i ++ others i) in
    subst (λ pss. AreLarge pss c.args.d) both (c.new.ensures.many e)
