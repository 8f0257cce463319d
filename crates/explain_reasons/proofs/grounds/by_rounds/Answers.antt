use Rattle.std.proofs.Common.{sym, ◌∙◌}
use Rattle.explain_reasons.proofs.grounds.by_rounds.Goals as goal

pub by_calls-requires-clause-rounds : goal.by_calls-requires-clause-rounds
by_calls-requires-clause-rounds c =
    let unbounded = rw c.deref.ensures.value at (sym c.some_unbounded.ensures ∙ c.if-some_unbounded.true) in
    record { found = c.in_ok-rounds.rounds; finds = c.in_ok-rounds.ensures; unbounded = unbounded }

pub by_price-requires-clause-rounds : goal.by_price-requires-clause-rounds
by_price-requires-clause-rounds c =
    let bounded = rw c.deref-else-some_unbounded.ensures.value at (sym c.all_bounded.ensures ∙ c.if-all_bounded.true) in
    record { found = c.in_ok-rounds.rounds; finds = c.in_ok-rounds.ensures; bounded = bounded }
