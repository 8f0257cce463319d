use Rattle.std.proofs.Common.{◌+◌, ◌++◌, sym, ap, ◌∙◌, [], ◌∷◌, map, drop}
use Rattle.std.specs.List.{filter}
use Rattle.std.proofs.lemmas.List.{drop_more}
use Rattle.call_groups.specs.Read.{ids_of}
use Rattle.explain_reasons.specs.Asked.{found_in}
use Rattle.explain_reasons.specs.Reasons.{group_in}
use Rattle.explain_reasons.specs.Explanation.{is_lacking}
use Rattle.explain_reasons.proofs.Listing.{one_done}
use Rattle.explain_reasons.proofs.program.each_explained.Goals as goal

pub loop-group-preserved : goal.loop-group-preserved
loop-group-preserved g c =
    let test = is_lacking (found_in c.args.asked) in
    let all = c.list-group-items.result.now in
    let k = c.loop-group.group-index in
    let group = c.group-item.result in
    let done = map group_in c.loop-group.reasons.items in
    let next = drop_more all k group c.loop-group-test.true ∙ ap (λ g. g ∷ drop (k + 1) all) (sym c.group-item.is) in
    let adds = c.in_ok-add_explained.ensures.each ∙ ap (λ fs. done ++ filter test (ids_of fs ∷ [])) c.deref.ensures.value in
    (one_done test done _ all k group c.loop-group-test.true next adds c.loop-group.invariant.0, c.in_ok-add_explained.ensures.explained c.loop-group.invariant.1)
