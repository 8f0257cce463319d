use Rattle.lsp_results.specs.Actions.{edit_json}
use Rattle.lsp_results.proofs.Listed.{one_more, all_made}
use Rattle.lsp_results.proofs.action.edits_value.Goals as goal

pub loop-edit-preserved : goal.loop-edit-preserved
loop-edit-preserved c =
    one_more (edit_json c.args.encoding c.args.document.now.text) c.loop-edit.items.items c.push.new.list.items c.in_ok-edit_value.field-0 c.args.edits.now c.loop-edit.edit-index c.edit-item.result
    c.loop-edit-test.true c.edit-item.is c.in_ok-push.ensures.ok c.in_ok-edit_value.ensures c.loop-edit.invariant

pub returns : goal.returns
returns c = all_made (edit_json c.args.encoding c.args.document.now.text) c.loop-edit.items c.args.edits.now c.loop-edit.edit-index c.loop-edit-test.false c.loop-edit.invariant
