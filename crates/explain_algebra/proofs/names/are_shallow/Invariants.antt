use Rattle.std.proofs.Common.{◌≡◌, drop}
use Rattle.base_poly.specs.Read.{context_of}
use Rattle.explain_algebra.specs.Laws.{are_shallow}
use Rattle.explain_algebra.proofs.names.are_shallow.Given as goal

abbrev pub invariant-loop-param : goal.invariant-loop-param
invariant-loop-param l = are_shallow (context_of (drop l.param-index l.params)) ≡ are_shallow (context_of l.params)
