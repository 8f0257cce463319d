use Rattle.std.proofs.Common.{◌++◌, ◌∙◌, ap, inr, string_bytes}
use Rattle.std.proofs.lemmas.List.{append_assoc}
use Rattle.explain_plot.specs.Read.{outcome_of}
use Rattle.explain_top.proofs.Telling.{report_written, text_put}
use Rattle.explain_top.proofs.plot.drawn.Goals as goal

pub returns-in-Ok-leave-clause-told : goal.returns-in-Ok-leave-clause-told
returns-in-Ok-leave-clause-told g c =
    let told = c.in-Ok.ensures.told in
    let left = c.in-Ok-leave.ensures.ends in
    let empty = string_bytes c.new-report.result in
    let both = left.2 ∙ ap (λ text. text ++ left.0) told.4 ∙ append_assoc empty told.1 left.0 in
    let written = report_written c.deref.result.now (string_bytes c.leave.new.report) empty (told.1 ++ left.0) _ c.deref.ensures both c.new-report.ensures.bytes c.write_report.ensures in
    let put = text_put c.deref-in-Ok-leave.result.now (string_bytes c.tell_plot.new.text) (string_bytes c.new-text.result) told.0 _ _ _ c.deref-in-Ok-leave.ensures told.3 c.new-text.ensures.bytes c.put_text.ensures in
    inr (c.requires.free, (outcome_of c.in-Ok.told told.0 told.1, left.0, c.in-Ok-leave.done, told.2, left.1, put, written))
