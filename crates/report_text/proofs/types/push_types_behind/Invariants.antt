use Rattle.std.proofs.Common.{◌≡◌, ◌++◌, drop, string_bytes}
use Rattle.report_text.specs.Report.{types_in, types_behind}
use Rattle.report_text.proofs.types.push_types_behind.Given as goal

abbrev pub invariant-loop-param : goal.invariant-loop-param
invariant-loop-param l = string_bytes l.text ++ types_behind (types_in (drop l.param-index l.params)) ≡ string_bytes l.initial.text ++ types_behind (types_in l.params)
