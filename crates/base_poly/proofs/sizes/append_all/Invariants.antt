use Rattle.std.proofs.Common.{◌≡◌, ◌≤◌, ◌++◌, drop, vec_len}
use Rattle.base_poly.specs.Sizes.{all_sums}
use Rattle.base_poly.proofs.sizes.append_all.Given as goal

abbrev pub invariant-loop-first : goal.invariant-loop-first
invariant-loop-first l = record {
  done : l.found.items ++ all_sums l.more l.d (drop l.first-index l.firsts) l.others ≡ l.fn.found.items ++ all_sums l.more l.d l.firsts l.others;
  few : vec_len l.found ≤ l.most;
}
