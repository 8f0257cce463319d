use Rattle.std.proofs.Common.{◌≡◌, drop}
use Rattle.base_poly.specs.Read.{context_of}
use Rattle.bound_compare.specs.Powers.{are_flat}
use Rattle.bound_compare.proofs.form.is_flat.Given as goal

abbrev pub invariant-loop-param : goal.invariant-loop-param
invariant-loop-param l = are_flat (context_of (drop l.param-index l.params)) ≡ are_flat (context_of l.params)
