use Rattle.std.proofs.Common.{◌≡◌, ◌≤◌, vec_len}
use Rattle.base_poly.specs.Sizes.{list_sums}
use Rattle.base_poly.proofs.sizes.list_sums.Given as goal

abbrev pub invariant-loop-g : goal.invariant-loop-g
invariant-loop-g l = record {
  done : l.found.items ≡ list_sums l.entries l.g;
  few : vec_len l.found ≤ l.most;
}
