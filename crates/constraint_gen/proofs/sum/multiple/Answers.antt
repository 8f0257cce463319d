use Rattle.std.proofs.Common.{◌≡◌, [], drop, append-nil, ap, sym, ◌∙◌, ◌++◌, subst, arith}
use Rattle.std.proofs.lemmas.Grind.{common_steps}
use Rattle.constraint_gen.specs.Sums.{IsSum, scaled}
use Rattle.constraint_gen.proofs.Sums.{sum_scaled}
use Rattle.constraint_gen.proofs.sum.multiple.Goals as goal

pub returns-clause-sum : goal.returns-clause-sum
returns-clause-sum c =
    let none : drop c.loop-term.term-index c.args.terms.now ≡ [] = grind (arith, common_steps) in
    let all = sym (append-nil c.loop-term.made.items) ∙ ap (λ ts. c.loop-term.made.items ++ scaled c.args.factor ts) (sym none) ∙ c.loop-term.invariant in
    subst IsSum (sym all) (sum_scaled c.args.factor c.args.terms.now c.requires.sum)
