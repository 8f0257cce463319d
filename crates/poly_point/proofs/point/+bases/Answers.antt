use Rattle.std.proofs.Common.{◌-◌, ◌∷◌, map, take, drop, length, sym, ap, ◌∙◌, arith}
use Rattle.base_poly.specs.Read.{plains_of}
use Rattle.poly_point.specs.Walk.{value}
use Rattle.poly_point.proofs.Raised.{whole, tuple_fits}
use Rattle.poly_point.proofs.point.+bases.Goals as goal

pub overflow_mul-result : goal.overflow_mul-result
overflow_mul-result t c =
    let indices = c.args.indices.now in
    let first = whole indices _ c.in-len1-up.len_at_least ∙ ap (λ i. i ∷ take (length indices - 1) (drop 1 indices)) (sym c.index-item.is) in
    let args = whole c.args.args.now _ c.in-len1-up-args.len_at_least in
    let all = tuple_fits _ _ _ _ _ _ _ _ c.requires.small c.requires.low (ap plains_of first) (ap (map (value c.args.heap.now.cells)) args) c.in_ok-count-in-len1-up-args.ensures c.in_ok-bases-in-len1-up-args.ensures in
    omega (arith, all)
