use Rattle.share_normal.specs.Program.{source_in}
use Rattle.rules_plan.specs.Read.{program_in}
use Rattle.explain_degrees.proofs.Found.{AreNoted}
use Rattle.explain_degrees.proofs.noted.note_functions.Given as goal

abbrev pub invariant-loop-place : goal.invariant-loop-place
invariant-loop-place l = AreNoted (source_in l.verified.program) (program_in l.verified.program) l.degree l.place l.initial.functions l.functions
