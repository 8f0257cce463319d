use Rattle.std.proofs.Common.{◌++◌, ◌∙◌, ap, inr, string_bytes}
use Rattle.std.proofs.lemmas.List.{append_assoc}
use Rattle.explain_top.proofs.Telling.{report_written}
use Rattle.explain_top.proofs.draft.leave_draft.Goals as goal

pub returns-in-Ok-leave-clause-left : goal.returns-in-Ok-leave-clause-left
returns-in-Ok-leave-clause-left g c =
    let drafted = c.in-Ok.ensures.told in
    let left = c.in-Ok-leave.ensures.ends in
    let empty = string_bytes c.new-report.result in
    let both = left.2 ∙ ap (λ text. text ++ left.0) drafted.2 ∙ append_assoc empty drafted.0 left.0 in
    let written = report_written c.deref.result.now (string_bytes c.leave.new.report) empty (drafted.0 ++ left.0) _ c.deref.ensures both c.new-report.ensures.bytes c.write_report.ensures in
    inr (inr (c.in-Ok.draft, drafted.0, left.0, drafted.1, left.1, written))
