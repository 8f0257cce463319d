use Rattle.std.proofs.Common.{ap, sym, subst}
use Rattle.share_normal.specs.Program.{source_in}
use Rattle.rules_plan.specs.Read.{program_in}
use Rattle.analysis_report.specs.Comparison.{AreComparisons}
use Rattle.refusals.specs.Ending.{Done, ending_of}
use Rattle.raml_top.proofs.comparison.comparison_report.Goals as goal

pub returns-in-Ok : goal.returns-in-Ok
returns-in-Ok c =
    let P = source_in c.args.program.now in
    let N = program_in c.args.program.now in
    let cert = c.args.verified.now.certificate in
    let found = c.args.found.now.certificate in
    (Done, ap ending_of c.done.ensures.status, subst (AreComparisons P N cert (source_in c.args.other.now) (program_in c.args.other.now) found) (sym c.done.ensures.text) c.in-Ok.ensures)
