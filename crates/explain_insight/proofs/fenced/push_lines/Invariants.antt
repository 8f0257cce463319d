use Rattle.std.proofs.Common.{◌≡◌, ◌++◌, drop, string_bytes}
use Rattle.explain_at.specs.Read.{texts}
use Rattle.explain_insight.specs.Fenced.{lined}
use Rattle.explain_insight.proofs.fenced.push_lines.Given as goal

abbrev pub invariant-loop-line : goal.invariant-loop-line
invariant-loop-line l = string_bytes l.text ++ lined (texts (drop l.line-index l.lines)) ≡ string_bytes l.initial.text ++ lined (texts l.lines)
