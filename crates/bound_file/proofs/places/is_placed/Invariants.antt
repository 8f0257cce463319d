use Rattle.std.proofs.Common.{◌≡◌, drop}
use Rattle.bound_file.specs.Reading.{is_placed}
use Rattle.bound_file.proofs.places.is_placed.Given as goal

abbrev pub invariant-loop-tuple : goal.invariant-loop-tuple
invariant-loop-tuple l = is_placed (drop l.tuple-index l.tuples) l.text ≡ is_placed l.tuples l.text
