use Rattle.std.proofs.Common.{drop}
use Rattle.raml_syntax.specs.Read.{program_of}
use Rattle.explain_insight.specs.Lenses.{IsLens}
use Rattle.explain_insight.proofs.Each.{AreSoFar}
use Rattle.explain_insight.proofs.program.lenses.Given as goal

abbrev pub invariant-loop-place : goal.invariant-loop-place
invariant-loop-place l =
    AreSoFar IsLens (program_of l.program) l.findings (drop l.place (program_of l.program)) (drop l.place l.findings) l.lenses.items
