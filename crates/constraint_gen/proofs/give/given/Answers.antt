use Rattle.std.proofs.Common.{◌≡◌, ◌++◌, ◌∷◌, [], ◌∙◌, rules, arith}
use Rattle.constraint_gen.specs.Sums.{unknown}
use Rattle.constraint_gen.proofs.Giving.{given_more}
use Rattle.constraint_gen.proofs.give.given.Goals as goal

pub loop-preserved : goal.loop-preserved
loop-preserved c =
    let so_far = c.loop.invariant in
    let items : c.push.new.self.items ≡ c.loop.made.items ++ unknown c.loop.next ∷ [] = search rules in (
      items ∙ (λ i. so_far.0 i ++ unknown (so_far.1 i) ∷ []) ∙ given_more unknown c.args.next.now c.loop.counter,
      omega (arith, so_far.1),
    )
