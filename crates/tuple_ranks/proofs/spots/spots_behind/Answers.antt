use Rattle.std.proofs.Common.{◌≡◌, ℕ, List, ap, ◌∷◌, [], ◌++◌, ◌∙◌, ◌-◌, map, min, take, arith, rules}
use Rattle.tuple_ranks.specs.Columns.{place, up_to}
use Rattle.tuple_ranks.specs.Numbers.{cut}
use Rattle.tuple_ranks.specs.Slots.{picked}
use Rattle.tuple_ranks.proofs.Rows.{rows_step, rows_end, cut_min}
use Rattle.tuple_ranks.proofs.spots.spots_behind.Goals as goal

pub loop-preserved : goal.loop-preserved
loop-preserved c =
    rows_step (λ ns. place c.args.whole.now (picked c.args.slots.now (c.args.row.now ++ ns))) c.min-count.result c.loop.counter c.last.inside.width _ _ _ _ _ _ c.loop-test.true c.split.ensures.first c.split.ensures.rest
    (c.in_ok-push.ensures.items
    ∙ ap (λ p. c.loop.found.items ++ p ∷ []) (c.place.ensures ∙ ap (λ ns. place c.args.whole.now (picked c.args.slots.now ns)) (c.deref-in-loop.ensures.value ∙ c.in_ok-join.ensures)))
    c.loop.invariant

pub returns : goal.returns
returns c =
    let f : List ℕ → ℕ = λ ns. place c.args.whole.now (picked c.args.slots.now (c.args.row.now ++ ns)) in
    let count : c.min-count.result ≡ min (up_to c.args.second.now (c.args.second.now.degree - c.args.degree)) c.last.inside.count = search rules in
    let view : cut c.last.inside.count c.last.inside.width c.last.inside.numbers.items ≡ c.args.last.now = search rules in
    rows_end f c.min-count.result c.loop.counter c.last.inside.width _ _ _ (omega (arith, c.loop-test.false)) c.loop.invariant
    ∙ ap (map f) (cut_min c.min-count.result (up_to c.args.second.now (c.args.second.now.degree - c.args.degree)) c.last.inside.count c.last.inside.width c.last.inside.numbers.items count)
    ∙ ap (λ l. map f (take (up_to c.args.second.now (c.args.second.now.degree - c.args.degree)) l)) view
