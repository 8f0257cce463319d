use Rattle.share_normal.specs.Program.{source_in}
use Rattle.rules_plan.specs.Read.{program_in}
use Rattle.analysis_report.specs.Steps.{AllFitBelow}
use Rattle.analysis_report.proofs.Powered.{FirstInPowers}
use Rattle.analysis_report.proofs.powering.each_function.Given as goal

abbrev pub invariant-loop-place : goal.invariant-loop-place
invariant-loop-place l =
    let P = source_in l.verified.program in
    let N = program_in l.verified.program in
    FirstInPowers P N l.verified.certificate l.place l.text.bytes.items × AllFitBelow P N l.verified.certificate l.place
