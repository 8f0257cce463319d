use Rattle.std.proofs.Common.{◌<◌, ◌≤◌, ◌-◌, ◌^◌, length, rules}
use Rattle.explain_edits.proofs.Ends.{edited_next}
use Rattle.explain_edits.proofs.edit.edited.Goals as goal

pub loop-edit-preserved : goal.loop-edit-preserved
loop-edit-preserved c =
    let fits : length c.args.source.now ≤ 2 ^ 64 - 1 = search rules in
    let within : c.loop-edit.edit-index < length c.args.edits.now = search rules in
    edited_next c.args.source.now c.args.edits.now c.loop-edit.edit-index c.edit-item.result c.loop-edit.from c.end-from.result c.loop-edit.text.items
    _ _ fits within c.edit-item.is c.end-from.ensures c.in_ok-append.ensures c.loop-edit.invariant
