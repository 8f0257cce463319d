use Rattle.std.proofs.Common.{rules, FitsSigned, ◌*ℤ◌}
use Rattle.std.proofs.lemmas.Int.{to_z-of_z}
use Rattle.std.specs.Int.{w128}
use Rattle.frac128.proofs.Short.{short_product, it_fits}
use Rattle.frac128.proofs.parts.whole_product.Goals as goal

pub overflow_mul-result : goal.overflow_mul-result
overflow_mul-result c =
    let f : FitsSigned w128 c.args.a = search rules in
    let g : FitsSigned w128 c.args.b = search rules in
    let h = simp (to_z-of_z w128 _ f) at (c.is_short.ensures c.if-is_short.true) in
    let k = simp (to_z-of_z w128 _ g) at (c.is_short-then-is_short.ensures c.if-is_short-2.true) in
    rw (to_z-of_z w128 _ f, to_z-of_z w128 _ g) (it_fits (c.args.a *ℤ c.args.b) (short_product c.args.a c.args.b h k))

pub returns-then-is_short-2 : goal.returns-then-is_short-2
returns-then-is_short-2 c =
    let f : FitsSigned w128 c.args.a = search rules in
    let g : FitsSigned w128 c.args.b = search rules in
    let h = simp (to_z-of_z w128 _ f) at (c.is_short.ensures c.if-is_short.true) in
    let k = simp (to_z-of_z w128 _ g) at (c.is_short-then-is_short.ensures c.if-is_short-2.true) in
    let fits = short_product c.args.a c.args.b h k in
    (fits, rw (to_z-of_z w128 _ f, to_z-of_z w128 _ g) (to_z-of_z w128 _ (it_fits (c.args.a *ℤ c.args.b) fits)))
