use Rattle.std.proofs.Common.{drop}
use Rattle.raml_syntax.specs.Read.{program_of}
use Rattle.explain_insight.specs.Lenses.{IsHint}
use Rattle.explain_insight.proofs.Each.{AreSoFar}
use Rattle.explain_insight.proofs.program.hints.Given as goal

abbrev pub invariant-loop-place : goal.invariant-loop-place
invariant-loop-place l =
    AreSoFar (IsHint l.source) (program_of l.program) l.findings (drop l.place (program_of l.program)) (drop l.place l.findings) l.hints.items
