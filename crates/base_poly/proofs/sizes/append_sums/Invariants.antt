use Rattle.std.proofs.Common.{◌≡◌, ◌≤◌, ◌++◌, drop, vec_len}
use Rattle.base_poly.specs.Sizes.{sums_behind}
use Rattle.base_poly.proofs.sizes.append_sums.Given as goal

abbrev pub invariant-loop-other : goal.invariant-loop-other
invariant-loop-other l = record {
  done : l.found.items ++ sums_behind l.first l.d (drop l.other-index l.others) ≡ l.fn.found.items ++ sums_behind l.first l.d l.others;
  few : vec_len l.found ≤ l.most;
}
