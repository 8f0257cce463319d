use Rattle.std.proofs.Common.{◌≡◌, [], fold}
use Rattle.indexmap.specs.IndexSet.{insert_key}
use Rattle.base_poly.specs.Plain.{alike}
use Rattle.tuple_ranks.proofs.slots.places.Given as goal

abbrev pub invariant-loop-tuple : goal.invariant-loop-tuple
invariant-loop-tuple l = l.places.keys ≡ fold (insert_key alike) [] l.yielded
