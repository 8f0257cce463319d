use Rattle.std.proofs.Common.{rules, unsigned_abs, ◌<◌, ◌^◌, w64}
use Rattle.std.specs.Int.{w128}
use Rattle.std.proofs.lemmas.Int.{to_z-of_z}
use Rattle.simplex_rows.proofs.Narrowing.{product_fits}
use Rattle.simplex_rows.proofs.narrow.numerator_over.Goals as goal

pub times-requires-clause-divides : goal.times-requires-clause-divides
times-requires-clause-divides c = rw (to_z-of_z w64 c.args.den c.ranges.den) c.requires.divides

small_numerator : (c : goal.After-from) → unsigned_abs c.num-num.result < 2 ^ 63
small_numerator c = search rules

pub overflow_mul-product : goal.overflow_mul-product
overflow_mul-product c =
    rw (to_z-of_z w128 c.num-num.result (record { sfits = c.num-num.type_inv }), to_z-of_z w128 c.from.result (record { sfits = c.from.type_inv }), c.from.ensures, to_z-of_z w64 c.times.result (record { sfits = c.times.type_inv }))
    (product_fits c.num-num.result c.times.result (small_numerator c) (record { sfits = c.times.type_inv }))
