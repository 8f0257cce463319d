use Rattle.std.proofs.Common.{◌≡◌, ◌++◌, drop, map, string_bytes}
use Rattle.raml_syntax.specs.Read.{program_of, function_of}
use Rattle.stack_compile.specs.Text.{functions_text, code_text}
use Rattle.stack_compile.proofs.text.print.Given as goal

abbrev pub invariant-loop-place : goal.invariant-loop-place
invariant-loop-place l =
    string_bytes l.text ++ functions_text (program_of l.code) (map function_of (drop l.place l.funs)) ≡ code_text (program_of l.code)
