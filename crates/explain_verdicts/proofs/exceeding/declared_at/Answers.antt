use Rattle.std.proofs.Common.{sym, ap, ◌∙◌, ◌+◌, drop, cond, Some}
use Rattle.explain_verdicts.specs.Exceeding.{declared_at}
use Rattle.explain_verdicts.proofs.Multiples.{from_place}
use Rattle.explain_verdicts.proofs.exceeding.declared_at.Goals as goal

pub returns-then-eq : goal.returns-then-eq
returns-then-eq c =
    let fs = c.args.fractions.now in
    let i = c.loop-fraction.fraction-index in
    let f = c.fraction-item.result in
    let t = c.args.tuple.now in
    sym (ap (λ b. cond b (Some f) (declared_at t (drop (i + 1) fs))) (sym c.eq.ensures ∙ c.if-eq.true))
    ∙ ap (declared_at t) (sym (from_place fs i f c.fraction-item.is c.loop-fraction-test.true)) ∙ c.loop-fraction.invariant
