use Rattle.std.proofs.Common.{take, drop, length, ◌-◌, ◌++◌, ◌∷◌, [], map, filter, ap, ◌∙◌}
use Rattle.std.proofs.lemmas.List.{map-append}
use Rattle.cost_free.specs.Target.{can_join, subsets}
use Rattle.cost_free.specs.Read.{holder_of, holders_of, sets_of}
use Rattle.cost_free.proofs.Sets.{both_ways, cut_first, behind}
use Rattle.cost_free.proofs.holder.+choose.Goals as goal

pub append_sets-returns-in_ok-append_sets-in-len1-up-clause-all : goal.append_sets-returns-in_ok-append_sets-in-len1-up-clause-all
append_sets-returns-in_ok-append_sets-in-len1-up-clause-all t c =
    both_ways can_join _ _ _ (holders_of c.args.before.now.items) _ (holder_of c.first-item.result) (holders_of c.args.others.now) (holders_of (take (length c.args.others.now - 1) (drop 1 c.args.others.now))) subsets
    (ap holders_of c.in_ok-append_with-in-len1-up.ensures.kept) c.in_ok-append_with-in-len1-up.ensures.all c.in_ok-append_sets-in-len1-up.ensures.all
    (ap (λ l. subsets (holders_of l)) (cut_first c.args.others.now c.first-item.result c.in-len1-up.len_at_least c.first-item.is))

pub append_with-returns-clause-all : goal.append_with-returns-clause-all
append_with-returns-clause-all t c =
    let ss = subsets (holders_of c.args.more.now) in
    let old = holders_of c.args.before.now.items in
    let pushed = ap holders_of c.in_ok-push.ensures.items ∙ map-append holder_of c.args.before.now.items (c.args.first ∷ []) in
    c.in_ok-append_sets.ensures.all
    ∙ ap (λ l. sets_of c.args.found.now.items ++ filter can_join l) (ap (λ b. map (λ s. b ++ s) ss) pushed ∙ behind old (holder_of c.args.first) ss)
