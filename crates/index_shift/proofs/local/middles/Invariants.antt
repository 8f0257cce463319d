use Rattle.std.proofs.Common.{◌≡◌, ◌++◌, drop, map}
use Rattle.index_shift.specs.Local.{middle_at}
use Rattle.index_shift.specs.Read.{carry_of, middles_of}
use Rattle.index_shift.proofs.local.middles.Given as goal

abbrev pub invariant-loop-tuple : goal.invariant-loop-tuple
invariant-loop-tuple l =
    middles_of l.found.items ++ map (middle_at (carry_of l.carry) l.places.keys l.new) (drop l.tuple-index l.tuples) ≡ map (middle_at (carry_of l.carry) l.places.keys l.new) l.tuples
