use Rattle.std.proofs.Common.{◌≡◌, ◌+◌, ◌-◌, []}
use Rattle.index_shift.specs.Lift.{of_degrees}
use Rattle.index_shift.specs.Read.{counts_of, middles_of}
use Rattle.index_shift.proofs.lift.lift.Given as goal

abbrev pub invariant-loop-g : goal.invariant-loop-g
invariant-loop-g l = of_degrees (counts_of l.counts) (middles_of l.middles) l.g (1 + l.d - l.g) (l.found.items, l.from) ≡ of_degrees (counts_of l.counts) (middles_of l.middles) 0 (1 + l.d) ([], 0)
