use Rattle.std.proofs.Common.{◌≡◌, ◌++◌, filter, nat_eq, drop}
use Rattle.cost_free.proofs.target_degrees.append_equal.Given as goal

abbrev pub invariant-loop-unit : goal.invariant-loop-unit
invariant-loop-unit l = l.found.items ++ filter (λ n. nat_eq n l.degree) (drop l.unit-index l.units) ≡ l.fn.found.items ++ filter (λ n. nat_eq n l.degree) l.units
