use Rattle.std.proofs.Common.{◌≡◌, ◌-◌, ◌++◌, map}
use Rattle.std.specs.List.{range_with_len}
use Rattle.index_shift.specs.Lengths.{opened_at}
use Rattle.index_shift.specs.Read.{middles_of}
use Rattle.index_shift.proofs.lengths.opened.Given as goal

abbrev pub invariant-loop-n : goal.invariant-loop-n
invariant-loop-n l = middles_of l.found.items ++ map opened_at (range_with_len l.n (l.end - l.n)) ≡ map opened_at (range_with_len 0 l.end)
