use Rattle.std.proofs.Common.{◌≡◌, ◌+◌, drop, map}
use Rattle.base_poly.specs.Poly.{magnitudes}
use Rattle.poly_point.specs.Point.{worth}
use Rattle.poly_point.specs.Walk.{value}
use Rattle.poly_point.proofs.point.numerator.Given as goal

abbrev pub invariant-loop-tuple : goal.invariant-loop-tuple
invariant-loop-tuple l =
    l.sum + worth (magnitudes (drop l.tuple-index l.terms)) (map (value l.heap.cells) l.args) ≡ worth (magnitudes l.terms) (map (value l.heap.cells) l.args)
