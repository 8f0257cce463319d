use Rattle.std.proofs.Common.{subst, arith}
use Rattle.explain_sizes.specs.Shares.{Holds}
use Rattle.explain_sizes.proofs.Adding.{below, above}
use Rattle.explain_sizes.proofs.share.sum_of_both.Goals as goal

pub returns-then-rest-den-clause-holds : goal.returns-then-rest-den-clause-holds
returns-then-rest-den-clause-holds c =
    let den = c.args.den in
    subst (λ n. Holds den n c.told.result) (below den _ c.args.first.whole c.args.second.whole c.args.first.rest c.args.second.rest c.in_ok-whole.ensures.1) (c.told.ensures.holds den)

pub returns-in_ok-checked_add-clause-holds : goal.returns-in_ok-checked_add-clause-holds
returns-in_ok-checked_add-clause-holds c =
    let den = c.args.den in
    subst (λ n. Holds den n c.told-else-rest-den.result)
    (above den _ _ c.args.first.whole c.args.second.whole c.args.first.rest c.args.second.rest c.in_ok-whole.ensures.1 c.in_ok-checked_add.ensures.1 (omega (arith, c.if-rest-den.false)))
    (c.told-else-rest-den.ensures.holds den)
