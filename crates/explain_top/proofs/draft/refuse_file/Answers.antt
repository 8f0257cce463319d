use Rattle.std.proofs.Common.{refl, inr, string_bytes}
use Rattle.explain_check.specs.Stores.{error_line}
use Rattle.explain_top.proofs.Telling.{report_written}
use Rattle.explain_top.proofs.draft.refuse_file.Goals as goal

pub returns-in-Ok : goal.returns-in-Ok
returns-in-Ok g c =
    let line = error_line c.args.name.now c.args.why.now in
    inr (refl, report_written c.deref.result.now (string_bytes c.push_error.new.report) (string_bytes c.new-report.result) line _ c.deref.ensures c.in-Ok.ensures c.new-report.ensures.bytes c.write_report.ensures)
