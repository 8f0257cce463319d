use Rattle.raml_syntax.specs.Read.{program_of}
use Rattle.rules_plan.specs.Read.{program_in}
use Rattle.explain_marks.specs.Marks.{IsMark}
use Rattle.explain_marks.proofs.Added.{AreSoFar}
use Rattle.explain_marks.proofs.made.marks_made.Given as goal

abbrev pub invariant-loop-size : goal.invariant-loop-size
invariant-loop-size l = AreSoFar (IsMark (program_of l.typed) (program_in l.verified.program) l.verified.certificate l.fun.0 l.meter) l.found
