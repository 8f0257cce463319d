use Rattle.share_normal.specs.Program.{source_in}
use Rattle.rules_plan.specs.Read.{program_in}
use Rattle.analysis_report.proofs.Listed.{AreFirstLines}
use Rattle.analysis_report.proofs.listing.each_line.Given as goal

abbrev pub invariant-loop-place : goal.invariant-loop-place
invariant-loop-place l = AreFirstLines (source_in l.verified.program) (program_in l.verified.program) l.verified.certificate l.meter l.place l.text.bytes.items
