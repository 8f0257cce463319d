use Rattle.raml_syntax.specs.Read.{program_of}
use Rattle.rules_plan.specs.Read.{program_in}
use Rattle.explain_marks.specs.Marks.{IsGivenMark}
use Rattle.explain_marks.proofs.Added.{AreSoFar}
use Rattle.explain_marks.proofs.given.marks_given.Given as goal

abbrev pub invariant-loop-file : goal.invariant-loop-file
invariant-loop-file l = AreSoFar (IsGivenMark (program_of l.typed) (program_in l.verified.program) l.verified.certificate l.fun.0 l.meter l.place l.files) l.found
