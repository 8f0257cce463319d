use Rattle.std.proofs.Common.{◌∙◌, ◌++◌, ◌*◌, ◌-◌, ◌<◌, ◌≤◌, ap, sym, append-nil, length, arith, rules}
use Rattle.rules_spec.specs.Asked.{asked}
use Rattle.rules_spec.specs.Plan.{Plan}
use Rattle.rules_walk.specs.Read.{plan_of, size}
use Rattle.rules_walk.specs.Asks.{asks_of}
use Rattle.rules_walk.specs.Filled.{table_of, uses_of, filled}
use Rattle.rules_walk.proofs.Arms.{sizes_at}
use Rattle.rules_walk.proofs.AskedAt.{asked_at, asked_past}
use Rattle.rules_walk.proofs.Shared.{of_lets}
use Rattle.rules_walk.proofs.ask.+ask.Goals as goal

pub append_at-append-requires : goal.append_at-append-requires
append_at-append-requires t c =
    let low : c.args.place < length c.args.firsts.now = omega (arith, c.if-place-firsts.false) in
    let small = sizes_at c.args.firsts.now c.args.place c.index-firsts-place.result low in
    let same = ap (λ x. size (plan_of x.value)) c.index-firsts-place.is in
    let less : 4 * size (plan_of c.index-firsts-place.result.value) < t = omega (arith, small, same, c.decreases) in
    search (rules, less)

pub append_at-returns : goal.append_at-returns
append_at-returns t c =
    let low : c.args.place < length c.args.firsts.now = omega (arith, c.if-place-firsts.false) in
    let uses = uses_of (table_of c.args.uses.now) in
    let left = c.args.budget - c.args.place in
    c.in_ok-append.ensures ∙ ap (λ l. asks_of c.args.asks.now.items ++ l)
    (ap (λ b. asked (filled uses b (plan_of c.deref.result.now))) c.saturating_sub.ensures ∙ ap (λ x. asked (filled uses left (plan_of x))) c.deref.ensures ∙ ap (λ x. asked (filled uses left (plan_of x.value))) c.index-firsts-place.is
    ∙ sym (asked_at uses c.args.firsts.now c.args.budget c.args.place c.index-firsts-place.result low))

pub append_at-returns-then-place-firsts : goal.append_at-returns-then-place-firsts
append_at-returns-then-place-firsts t c =
    let high : length c.args.firsts.now ≤ c.args.place = omega (arith, c.if-place-firsts.true) in
    sym (ap (λ l. asks_of c.args.asks.now.items ++ l) (asked_past (uses_of (table_of c.args.uses.now)) c.args.firsts.now c.args.budget c.args.place high) ∙ append-nil (asks_of c.args.asks.now.items))

pub append-returns-in-Lets : goal.append-returns-in-Lets
append-returns-in-Lets t c =
    let asks = λ (x : Plan). asked (filled (uses_of (table_of c.args.uses.now)) c.args.budget x) in
    let same = ap (λ x. asks (plan_of x)) c.in-Lets.is ∙ ap asks (of_lets _ _ c.in-Lets.parts c.in-Lets.firsts c.in-Lets.rest) in
    search (rules, same)
