use Rattle.std.proofs.Common.{◌≡◌, ◌++◌, drop, map}
use Rattle.raml_syntax.specs.Read.{ty_of}
use Rattle.report_text.specs.Report.{types_in}
use Rattle.raml_parts.proofs.call.parameter_types.Given as goal

abbrev pub invariant-loop-param : goal.invariant-loop-param
invariant-loop-param l = map ty_of l.types.items ++ types_in (drop l.param-index l.params) ≡ types_in l.params
