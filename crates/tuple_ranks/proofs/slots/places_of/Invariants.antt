use Rattle.std.proofs.Common.{◌≡◌, ◌++◌, drop, map}
use Rattle.std.specs.List.{position_or_len}
use Rattle.base_poly.specs.Plain.{alike}
use Rattle.tuple_ranks.proofs.slots.places_of.Given as goal

abbrev pub invariant-loop-tuple : goal.invariant-loop-tuple
invariant-loop-tuple l = l.found.items ++ map (λ t. position_or_len (alike t) l.places.keys) (drop l.tuple-index l.tuples) ≡ map (λ t. position_or_len (alike t) l.places.keys) l.tuples
