use Rattle.std.proofs.Common.{◌≡◌, ◌++◌, ◌-◌, length}
use Rattle.share_normal.specs.Program.{source_in}
use Rattle.rules_plan.specs.Read.{program_in}
use Rattle.analysis_report.specs.Lines.{lines_between, AllClaim}
use Rattle.analysis_report.proofs.listing.all_lines.Given as goal

abbrev pub invariant-loop-place : goal.invariant-loop-place
invariant-loop-place l =
    let P = source_in l.verified.program in
    let N = program_in l.verified.program in
    let c = l.verified.certificate in
    (l.text.bytes.items ++ lines_between P N c l.place (length P - l.place) ≡ lines_between P N c 0 (length P)) × AllClaim N c l.place
