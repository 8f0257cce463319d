use Rattle.share_normal.specs.Program.{source_in}
use Rattle.rules_plan.specs.Read.{program_in}
use Rattle.analysis_report.proofs.Compared.{FirstCompare}
use Rattle.analysis_report.proofs.comparing.all_comparisons.Given as goal

abbrev pub invariant-loop-place : goal.invariant-loop-place
invariant-loop-place l =
    FirstCompare (source_in l.verified.program) (program_in l.verified.program) l.verified.certificate
    (source_in l.other.program) (program_in l.other.program) l.other.certificate l.place l.text.bytes.items
