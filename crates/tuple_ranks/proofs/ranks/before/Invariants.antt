use Rattle.std.proofs.Common.{◌≡◌, ◌≤◌, ◌+◌, min, drop, slice_index_or}
use Rattle.base_poly.specs.Base.{total}
use Rattle.index_shift.specs.Tables.{fits}
use Rattle.tuple_ranks.proofs.ranks.before.Given as goal

abbrev pub invariant-loop-p : goal.invariant-loop-p
invariant-loop-p l = record {
  done : min (l.sum + total (fits (λ r. slice_index_or l.numbers r 0) l.g) (drop l.p-index l.degrees)) 4294967295 ≡ min (total (fits (λ r. slice_index_or l.numbers r 0) l.g) l.degrees) 4294967295;
  low : l.sum ≤ 4294967295;
}
