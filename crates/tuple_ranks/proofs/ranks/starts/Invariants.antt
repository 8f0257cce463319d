use Rattle.std.proofs.Common.{◌≡◌, ◌≤◌, ◌+◌, ◌-◌, ◌++◌, slice_index_or}
use Rattle.index_shift.specs.Tables.{listed}
use Rattle.tuple_ranks.specs.Columns.{below}
use Rattle.tuple_ranks.proofs.ranks.starts.Given as goal

abbrev pub invariant-loop-g : goal.invariant-loop-g
invariant-loop-g l = record {
  found : l.found.items ++ listed (below (λ g. slice_index_or l.counts g 0)) l.g (2 + l.d - l.g) ≡ listed (below (λ g. slice_index_or l.counts g 0)) 0 (2 + l.d);
  low : l.low ≡ below (λ g. slice_index_or l.counts g 0) l.g;
  few : l.low ≤ 2000;
  end : l.g ≤ 1 + l.d;
}
