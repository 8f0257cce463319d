use Rattle.std.proofs.Common.{refl, sym, []}
use Rattle.std.proofs.lemmas.List.{append-nil}
use Rattle.refusals.specs.Refusals.{names_in}
use Rattle.share_normal.specs.Program.{source_in}
use Rattle.rules_plan.specs.Read.{program_in}
use Rattle.explain_calls.specs.Read.{showing_in}
use Rattle.explain_calls.specs.Told.{notes}
use Rattle.explain_calls.proofs.Analysing.{none_told, bounds_told}
use Rattle.explain_calls.proofs.analysed.tell_analysed.Goals as goal

pub returns-then-is_unanalysed : goal.returns-then-is_unanalysed
returns-then-is_unanalysed c =
    let kept = c.in_ok-program.program in
    let found = c.in_ok-functions.field-0 in
    let refused = rw c.deref.ensures.value at (c.is_unanalysed.ensures c.if-is_unanalysed.true) in
    let none = none_told kept c.args.typed.now c.in_ok-program.ensures.source c.in_ok-program.ensures.groups c.in_ok-program.ensures.normal c.args.most found c.in_ok-functions.ensures refused in
    ([], notes (names_in kept) found.refused.items, (refl, none), sym (append-nil _), c.in_ok-push_notes.ensures)

pub push_parts-requires-clause-found : goal.push_parts-requires-clause-found
push_parts-requires-clause-found c f g found at has =
    let kept = c.in_ok-program.program in
    c.findings_can_be_told.ensures (source_in kept) (program_in kept) c.args.most c.in_ok-functions.field-0.functions.items f g found
    c.in_ok-functions.ensures.functions (rw c.source.ensures.source at at) (rw c.deref-2.ensures.value at has)

pub returns : goal.returns
returns c =
    let kept = c.in_ok-program.program in
    let found = c.in_ok-functions.field-0 in
    let told = c.in_ok-push_parts.ensures in
    let parts = rw (c.source.ensures.source, c.deref-2.ensures.value) at told.1 in
    let bounds = bounds_told kept c.args.typed.now c.in_ok-program.ensures.source c.in_ok-program.ensures.groups c.in_ok-program.ensures.normal c.args.most found c.in_ok-functions.ensures (showing_in c.args.showing.now) told.0 parts in
    (told.0, notes (names_in kept) found.refused.items, bounds, told.2, c.in_ok-push_notes.ensures)
