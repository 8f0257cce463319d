use Rattle.std.proofs.Common.{◌∙◌, ◌*◌, ◌<◌, ap, length, arith, rules}
use Rattle.rules_spec.specs.Growth.{growth}
use Rattle.rules_walk.specs.Read.{plan_of, size}
use Rattle.rules_walk.proofs.Arms.{sizes_at}
use Rattle.rules_walk.proofs.Shared.{of_lets}
use Rattle.rules_walk.proofs.growing.+growth.Goals as goal

pub growth-returns-in-Lets : goal.growth-returns-in-Lets
growth-returns-in-Lets t c =
    let same = ap (λ x. growth c.args.factor (plan_of x)) c.in-Lets.is ∙ ap (growth c.args.factor) (of_lets _ _ c.in-Lets.parts c.in-Lets.firsts c.in-Lets.rest) in
    search (rules, same)

pub growths-growth-requires : goal.growths-growth-requires
growths-growth-requires t c =
    let low : c.loop-first.first-index < length c.args.firsts.now = c.loop-first-test.true in
    let small = sizes_at c.args.firsts.now c.loop-first.first-index c.first-item.result low in
    let same = ap (λ x. size (plan_of x.value)) c.first-item.is in
    let less : 4 * size (plan_of c.first-item.result.value) < t = omega (arith, small, same, c.decreases) in
    search (rules, less)
