use Rattle.std.proofs.Common.{◌≡◌, ◌++◌, drop, map, string_bytes}
use Rattle.raml_syntax.specs.Read.{function_of}
use Rattle.stack_compile.specs.Text.{lines_text}
use Rattle.stack_compile.proofs.text.push_lines.Given as goal

abbrev pub invariant-loop-place : goal.invariant-loop-place
invariant-loop-place l =
    string_bytes l.text ++ lines_text (map function_of l.funs) l.place (drop l.place l.code)
    ≡ string_bytes l.fn.text ++ lines_text (map function_of l.funs) 0 l.code
