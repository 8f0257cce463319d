use Rattle.std.proofs.Common.{◌*ℤ◌, SFits, sym, subst}
use Rattle.std.specs.Int.{w128}
use Rattle.std.proofs.lemmas.Int.{to_z-of_z}
use Rattle.bound_compare.proofs.Counts.{product_fits}
use Rattle.bound_compare.proofs.parts.product.Goals as goal

pub overflow_mul-result : goal.overflow_mul-result
overflow_mul-result c =
    let a = to_z-of_z w128 c.args.a c.ranges.a in
    let b = to_z-of_z w128 c.args.b c.ranges.b in
    subst (SFits w128) (λ i. sym a i *ℤ sym b i) (product_fits c.args.a c.args.b c.requires.a c.requires.b)
