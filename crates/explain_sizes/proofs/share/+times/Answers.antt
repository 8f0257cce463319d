use Rattle.std.proofs.Common.{subst}
use Rattle.explain_sizes.specs.Shares.{Holds}
use Rattle.explain_sizes.proofs.Adding.{even, odd}
use Rattle.explain_sizes.proofs.share.+times.Goals as goal

pub returns-then-number-eq0-2-clause-holds : goal.returns-then-number-eq0-2-clause-holds
returns-then-number-eq0-2-clause-holds t c = λ n h.
    let half = c.times-half.ensures.holds n h in
    subst (λ m. Holds c.args.den m c.sum-twice.result) (even n c.args.number c.if-number-eq0-2.true) (c.sum-twice.ensures.holds _ _ half half)

pub returns-else-number-eq0-2-clause-holds : goal.returns-else-number-eq0-2-clause-holds
returns-else-number-eq0-2-clause-holds t c = λ n h.
    let half = c.times-half.ensures.holds n h in
    subst (λ m. Holds c.args.den m c.sum.result) (odd n c.args.number c.if-number-eq0-2.false) (c.sum.ensures.holds _ _ (c.sum-twice.ensures.holds _ _ half half) h)
