use Rattle.std.proofs.Common.{◌≡◌, ◌++◌, drop, map}
use Rattle.index_shift.specs.Local.{target_at}
use Rattle.index_shift.proofs.local.targets.Given as goal

abbrev pub invariant-loop-tuple : goal.invariant-loop-tuple
invariant-loop-tuple l = l.found.items ++ map (target_at l.places.keys l.new) (drop l.tuple-index l.carried) ≡ map (target_at l.places.keys l.new) l.carried
