use Rattle.std.proofs.Common.{◌≡◌, ◌≤ℤ◌, pos, map, All}
use Rattle.tests_compare.proofs.polys.with_numbers.Given as goal

abbrev pub invariant-loop-tuple : goal.invariant-loop-tuple
invariant-loop-tuple l = record {
  natural : All (λ t. pos 0 ≤ℤ t.1) l.terms.items;
  tuples : map (λ t. t.0) l.terms.items ≡ l.yielded;
}
