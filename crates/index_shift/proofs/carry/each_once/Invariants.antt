use Rattle.std.proofs.Common.{◌≡◌, map}
use Rattle.index_shift.proofs.carry.each_once.Given as goal

abbrev pub invariant-loop-tuple : goal.invariant-loop-tuple
invariant-loop-tuple l = l.found.items ≡ map (λ t. (t, 1)) l.yielded
