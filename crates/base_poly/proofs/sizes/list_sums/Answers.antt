use Rattle.std.proofs.Common.{◌+◌, length, ap, ◌∙◌, arith}
use Rattle.std.proofs.lemmas.Grind.{common_steps}
use Rattle.base_poly.specs.Sizes.{all_sums}
use Rattle.base_poly.proofs.Sized.{one_longer}
use Rattle.base_poly.proofs.sizes.list_sums.Goals as goal

pub returns-in_err-found-2-clause-many : goal.returns-in_err-found-2-clause-many
returns-in_err-found-2-clause-many c =
    let g = c.loop-g.g in
    let whole = ap length (one_longer c.args.entries.now g) in
    let same = ap (λ l. length (all_sums 1 (g + 1) c.args.entries.now l)) (c.deref.ensures.value ∙ c.loop-g.invariant.done) in
    λ e. (g + 1, omega (arith, c.loop-g-test.true), grind (arith, common_steps, e, whole, same))
