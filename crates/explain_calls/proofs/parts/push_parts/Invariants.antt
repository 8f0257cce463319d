use Rattle.std.proofs.Common.{◌≡◌, ◌++◌, string_bytes, drop}
use Rattle.raml_syntax.specs.Tree.{Text}
use Rattle.raml_syntax.specs.Read.{program_of}
use Rattle.explain_calls.specs.Read.{showing_in}
use Rattle.explain_calls.proofs.Behind.{AreSoFar}
use Rattle.explain_calls.proofs.parts.push_parts.Given as goal

abbrev pub invariant-loop-place : goal.invariant-loop-place
invariant-loop-place l =
    (part : Text)
    × AreSoFar (program_of l.program) (showing_in l.showing) (program_of l.program) l.findings (drop l.place (program_of l.program)) (drop l.place l.findings) part
    × (string_bytes l.text ≡ string_bytes l.fn.text ++ part)
