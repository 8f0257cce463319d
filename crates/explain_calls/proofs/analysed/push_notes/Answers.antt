use Rattle.std.proofs.Common.{◌∙◌, ◌++◌, ap, sym, string_bytes}
use Rattle.std.proofs.lemmas.List.{append_assoc}
use Rattle.refusals.specs.Refusals.{names_in}
use Rattle.explain_calls.specs.Told.{note, notes}
use Rattle.explain_calls.proofs.Behind.{notes_more}
use Rattle.explain_calls.proofs.analysed.push_notes.Goals as goal

pub loop-refused-preserved : goal.loop-refused-preserved
loop-refused-preserved c =
    let names = names_in c.args.program.now in
    let before = string_bytes c.args.report.now in
    let told = c.loop-refused.yielded in
    let refused = c.in-Some.refused in
    c.in_ok-push_note.ensures ∙ ap (λ text. text ++ note names refused) c.loop-refused.invariant
    ∙ append_assoc before (notes names told) (note names refused) ∙ ap (λ text. before ++ text) (sym (notes_more names told refused))
