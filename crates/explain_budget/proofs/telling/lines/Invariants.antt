use Rattle.std.proofs.Common.{drop}
use Rattle.raml_syntax.specs.Read.{program_of}
use Rattle.explain_at.specs.Read.{texts}
use Rattle.explain_budget.proofs.Lined.{ToldSoFar}
use Rattle.explain_budget.proofs.telling.lines.Given as goal

abbrev pub invariant-loop-place : goal.invariant-loop-place
invariant-loop-place l =
    ToldSoFar (program_of l.program) l.declared.degree l.declared.lines l.judged (drop l.place l.declared.lines) (drop l.place l.judged) (texts l.lines.items)
