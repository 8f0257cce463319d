use Rattle.std.proofs.Common.{◌≡◌, ◌-◌}
use Rattle.index_shift.specs.Lift.{one_row, rows}
use Rattle.index_shift.specs.Read.{counts_of}
use Rattle.index_shift.proofs.lift.append_rows.Given as goal

abbrev pub invariant-loop-y : goal.invariant-loop-y
invariant-loop-y l = rows (one_row (counts_of l.counts) l.p l.k l.r l.targets) l.y ((counts_of l.counts).after l.r - l.y) (l.found.items, l.from) ≡ rows (one_row (counts_of l.counts) l.p l.k l.r l.targets) 0 ((counts_of l.counts).after l.r) (l.fn.found.items, l.fn.from)
