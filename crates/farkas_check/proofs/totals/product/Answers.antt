use Rattle.std.proofs.Common.{rules, FitsSigned}
use Rattle.std.proofs.lemmas.Int.{to_z-of_z}
use Rattle.std.specs.Int.{w128}
use Rattle.farkas_check.proofs.Short.{product_fits}
use Rattle.farkas_check.proofs.totals.product.Goals as goal

pub overflow_mul-result : goal.overflow_mul-result
overflow_mul-result c =
    let f : FitsSigned w128 c.args.a = search rules in
    let g : FitsSigned w128 c.args.b = search rules in
    let h = simp (to_z-of_z w128 _ f) at (c.is_short.ensures c.if-is_short.true) in
    let k = simp (to_z-of_z w128 _ g) at (c.is_short-then-is_short.ensures c.if-is_short-2.true) in
    rw (to_z-of_z w128 _ f, to_z-of_z w128 _ g) (product_fits c.args.a c.args.b h k)

pub returns-then-is_short-2 : goal.returns-then-is_short-2
returns-then-is_short-2 c =
    let f : FitsSigned w128 c.args.a = search rules in
    let g : FitsSigned w128 c.args.b = search rules in
    let h = simp (to_z-of_z w128 _ f) at (c.is_short.ensures c.if-is_short.true) in
    let k = simp (to_z-of_z w128 _ g) at (c.is_short-then-is_short.ensures c.if-is_short-2.true) in
    let fits = product_fits c.args.a c.args.b h k in
    (fits, rw (to_z-of_z w128 _ f, to_z-of_z w128 _ g) (to_z-of_z w128 _ fits))
