use Rattle.std.proofs.Common.{◌≡◌, ◌++◌, string_bytes}
use Rattle.raml_syntax.specs.Tree.{Text}
use Rattle.explain_check.proofs.report.push_bytes.Given as goal

abbrev pub invariant-loop-byte : goal.invariant-loop-byte
invariant-loop-byte l = (rest : Text) × (string_bytes l.report ≡ string_bytes l.fn.report ++ rest)
