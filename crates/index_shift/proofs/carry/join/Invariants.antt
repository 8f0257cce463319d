use Rattle.std.proofs.Common.{◌≡◌, [], ◌∷◌, map}
use Rattle.std.specs.Map.Iter.{deref_pair}
use Rattle.base_poly.specs.Count.{counts_of}
use Rattle.index_shift.proofs.carry.join.Given as goal

abbrev pub invariant-loop-index : goal.invariant-loop-index
invariant-loop-index l = l.found.items ≡ map (λ e. (e.0 ∷ [], e.1)) (counts_of (map deref_pair l.yielded))
