use Rattle.std.proofs.Common.{◌≡◌, ◌*◌, ◌∙◌, ap, sym, arith}
use Rattle.base_poly.specs.Laws.{choose}
use Rattle.explain_sizes.proofs.Binomials.{one_of, three_of, four_of}
use Rattle.explain_sizes.proofs.binomial.choices.Goals as goal

pub returns-then-few-eq1 : goal.returns-then-few-eq1
returns-then-few-eq1 c =
    let one = one_of c.args.count ∙ sym c.from.ensures in
    let few = ap (choose c.args.count) c.if-few-eq1.true in
    omega (arith, one, few)

pub returns-then-few-eq3 : goal.returns-then-few-eq3
returns-then-few-eq3 c =
    let others = c.from-then-few-eq3.ensures ∙ c.saturating_sub.ensures in
    c.over.ensures (choose c.args.count 3) (three_of c.args.count ∙ (λ m. sym c.pairs-then-few-eq3.ensures m * sym others m))
    ∙ ap (choose c.args.count) (sym c.if-few-eq3.true)

pub returns-else-few-eq3 : goal.returns-else-few-eq3
returns-else-few-eq3 c =
    let few : 4 ≡ c.args.few = omega (arith, c.requires, c.if-few-eq0.false, c.if-few-eq1.false, c.if-few-eq2.false, c.if-few-eq3.false) in
    let others = c.pairs-else-few-eq3-2.ensures ∙ ap (λ n. choose n 2) c.saturating_sub-else-few-eq3.ensures in
    c.over-else-few-eq3.ensures (choose c.args.count 4) (four_of c.args.count ∙ (λ m. sym c.pairs-else-few-eq3.ensures m * sym others m))
    ∙ ap (choose c.args.count) few
