use Rattle.std.proofs.Common.{◌≡◌, ◌++◌, drop, string_bytes}
use Rattle.raml_syntax.specs.Tree.{Text}
use Rattle.raml_syntax.specs.Read.{program_of}
use Rattle.explain_budget.proofs.Lined.{WrittenSoFar}
use Rattle.explain_budget.proofs.telling.push_objects.Given as goal

abbrev pub invariant-loop-place : goal.invariant-loop-place
invariant-loop-place l =
    (part : Text) × WrittenSoFar (program_of l.program) l.declared.degree l.declared.lines l.judged (drop l.place l.declared.lines) (drop l.place l.judged) part
    × (string_bytes l.text ≡ string_bytes l.fn.text ++ part)
