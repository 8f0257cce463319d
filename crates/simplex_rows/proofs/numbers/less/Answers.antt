use Rattle.std.proofs.Common.{rules, refl, FitsSigned}
use Rattle.std.proofs.lemmas.Int.{to_z-of_z}
use Rattle.std.specs.Int.{w128}
use Rattle.simplex_rows.proofs.Products.{product_fits, difference_fits, short_less}
use Rattle.simplex_rows.proofs.numbers.less.Goals as goal

pub overflow_mul-num : goal.overflow_mul-num
overflow_mul-num c =
    let f : FitsSigned w128 c.num-then-is_short-3.result = search rules in
    let g : FitsSigned w128 c.num-then-is_short-3-2.result = search rules in
    rw (to_z-of_z w128 _ f, to_z-of_z w128 _ g, c.num-then-is_short-3.ensures, c.num-then-is_short-3-2.ensures) (product_fits c.args.times.now.num c.args.q.now.num (c.if-is_short-2.ensures.short refl) (c.if-is_short-3.ensures.short refl))

pub overflow_sub-num : goal.overflow_sub-num
overflow_sub-num c =
    let e : FitsSigned w128 c.num.result = search rules in
    let f : FitsSigned w128 c.num-then-is_short-3.result = search rules in
    let g : FitsSigned w128 c.num-then-is_short-3-2.result = search rules in
    let product = product_fits c.args.times.now.num c.args.q.now.num (c.if-is_short-2.ensures.short refl) (c.if-is_short-3.ensures.short refl) in
    rw (to_z-of_z w128 _ e, to_z-of_z w128 _ f, to_z-of_z w128 _ g, c.num.ensures, c.num-then-is_short-3.ensures, c.num-then-is_short-3-2.ensures, to_z-of_z w128 _ product)
    (difference_fits c.args.x.now.num c.args.times.now.num c.args.q.now.num (c.if-is_short.ensures.short refl) (c.if-is_short-2.ensures.short refl) (c.if-is_short-3.ensures.short refl))

pub returns-then-is_short-3 : goal.returns-then-is_short-3
returns-then-is_short-3 c =
    let e : FitsSigned w128 c.num.result = search rules in
    let f : FitsSigned w128 c.num-then-is_short-3.result = search rules in
    let g : FitsSigned w128 c.num-then-is_short-3-2.result = search rules in
    let product = product_fits c.args.times.now.num c.args.q.now.num (c.if-is_short-2.ensures.short refl) (c.if-is_short-3.ensures.short refl) in
    let difference = difference_fits c.args.x.now.num c.args.times.now.num c.args.q.now.num (c.if-is_short.ensures.short refl) (c.if-is_short-2.ensures.short refl) (c.if-is_short-3.ensures.short refl) in
    short_less c.args.x.now c.args.times.now c.args.q.now c.whole.result (c.if-is_short.ensures.whole refl) (c.if-is_short-2.ensures.whole refl) (c.if-is_short-3.ensures.whole refl) (c.if-is_short.ensures.short refl) (c.if-is_short-2.ensures.short refl) (c.if-is_short-3.ensures.short refl)
    (rw (to_z-of_z w128 _ e, to_z-of_z w128 _ f, to_z-of_z w128 _ g, c.num.ensures, c.num-then-is_short-3.ensures, c.num-then-is_short-3-2.ensures, to_z-of_z w128 _ product, to_z-of_z w128 _ difference) at c.whole.ensures.fits)
    (rw (to_z-of_z w128 _ e, to_z-of_z w128 _ f, to_z-of_z w128 _ g, c.num.ensures, c.num-then-is_short-3.ensures, c.num-then-is_short-3-2.ensures, to_z-of_z w128 _ product, to_z-of_z w128 _ difference) at c.whole.ensures.num)
    c.whole.ensures.den
