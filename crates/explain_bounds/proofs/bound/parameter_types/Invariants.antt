use Rattle.std.proofs.Common.{◌≡◌, ◌++◌, drop}
use Rattle.base_poly.specs.Read.{context_of}
use Rattle.report_text.specs.Report.{types_in}
use Rattle.explain_bounds.proofs.bound.parameter_types.Given as goal

abbrev pub invariant-loop-param : goal.invariant-loop-param
invariant-loop-param l = context_of l.types.items ++ types_in (drop l.param-index l.params) ≡ types_in l.params
