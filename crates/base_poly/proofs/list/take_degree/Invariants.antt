use Rattle.std.proofs.Common.{◌≡◌, ◌++◌, nat_eq, not, filter}
use Rattle.base_poly.specs.Plain.{degrees}
use Rattle.base_poly.proofs.list.take_degree.Given as goal

abbrev pub invariant-loop-tuple : goal.invariant-loop-tuple
invariant-loop-tuple l = record {
  moved : l.ordered.items ≡ l.fn.ordered.items ++ filter (λ t. nat_eq (degrees t) l.degree) l.yielded;
  left : l.left.items ≡ filter (λ t. not (nat_eq (degrees t) l.degree)) l.yielded;
}
