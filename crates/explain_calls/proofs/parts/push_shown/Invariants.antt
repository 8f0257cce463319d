use Rattle.std.proofs.Common.{◌≡◌, ◌++◌, string_bytes, drop}
use Rattle.raml_syntax.specs.Tree.{Text}
use Rattle.explain_at.specs.Read.{texts}
use Rattle.explain_calls.proofs.Behind.{ShownSoFar}
use Rattle.explain_calls.proofs.parts.push_shown.Given as goal

abbrev pub invariant-loop-line : goal.invariant-loop-line
invariant-loop-line l =
    (part : Text) × ShownSoFar l.fn.width (texts l.lines) (texts (drop l.line-index l.lines)) part × (string_bytes l.text ≡ string_bytes l.fn.text ++ part)
