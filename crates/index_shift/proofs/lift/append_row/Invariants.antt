use Rattle.std.proofs.Common.{◌≡◌, ◌++◌, drop, map}
use Rattle.index_shift.specs.Lift.{entry_of}
use Rattle.index_shift.specs.Read.{counts_of}
use Rattle.index_shift.proofs.lift.append_row.Given as goal

abbrev pub invariant-loop-target : goal.invariant-loop-target
invariant-loop-target l = l.found.items ++ map (entry_of (counts_of l.counts) l.p l.k l.r l.from l.y) (drop l.target-index l.targets) ≡ l.fn.found.items ++ map (entry_of (counts_of l.counts) l.p l.k l.r l.from l.y) l.targets
