use Rattle.std.proofs.Common.{◌≡◌, drop}
use Rattle.index_shift.specs.Lift.{of_before}
use Rattle.index_shift.specs.Read.{counts_of, middles_of}
use Rattle.index_shift.proofs.lift.append_degree.Given as goal

abbrev pub invariant-loop-k : goal.invariant-loop-k
invariant-loop-k l = of_before (counts_of l.counts) (middles_of l.middles) l.g l.k (drop l.k (counts_of l.counts).before) (l.found.items, l.from) ≡ of_before (counts_of l.counts) (middles_of l.middles) l.g 0 (counts_of l.counts).before (l.fn.found.items, l.fn.from)
