use Rattle.std.proofs.Common.{◌≡◌, ◌++◌, drop, map, string_bytes}
use Rattle.raml_syntax.specs.Read.{function_of, program_of}
use Rattle.report_text.specs.Report.{type_lines}
use Rattle.report_text.proofs.types.type_lines.Given as goal

abbrev pub invariant-loop-fun : goal.invariant-loop-fun
invariant-loop-fun l = string_bytes l.text ++ type_lines (map function_of (drop l.fun-index l.program.funs.items)) ≡ type_lines (program_of l.program)
