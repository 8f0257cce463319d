use Rattle.std.proofs.Common.{◌≡◌, ◌≤◌, ◌+◌, ◌-◌, ◌++◌, map, slice_index_or}
use Rattle.index_shift.specs.Read.{items_of}
use Rattle.index_shift.specs.Tables.{fits, sums, listed, lows}
use Rattle.index_shift.proofs.tables.running.Given as goal

abbrev pub invariant-loop-h : goal.invariant-loop-h
invariant-loop-h l = record {
  table : map items_of l.table.items ++ listed (λ h. sums (fits (λ r. slice_index_or l.numbers r 0) h) (lows (λ r. slice_index_or l.numbers r 0) l.degrees h) l.degrees) l.h (1 + l.d - l.h)
      ≡ listed (λ h. sums (fits (λ r. slice_index_or l.numbers r 0) h) (lows (λ r. slice_index_or l.numbers r 0) l.degrees h) l.degrees) 0 (1 + l.d);
  low : l.low ≡ lows (λ r. slice_index_or l.numbers r 0) l.degrees l.h;
  few : l.low ≤ l.most;
  end : l.h ≤ 1 + l.d;
}
