use Rattle.std.proofs.Common.{◌≡◌, drop, fold}
use Rattle.index_shift.specs.Lift.{of_middle}
use Rattle.index_shift.specs.Read.{counts_of, middles_of}
use Rattle.index_shift.proofs.lift.append_middles.Given as goal

abbrev pub invariant-loop-middle : goal.invariant-loop-middle
invariant-loop-middle l = fold (of_middle (counts_of l.counts) l.left l.p l.k) (l.found.items, l.from) (middles_of (drop l.middle-index l.middles)) ≡ fold (of_middle (counts_of l.counts) l.left l.p l.k) (l.fn.found.items, l.fn.from) (middles_of l.middles)
