use Rattle.std.proofs.Common.{◌≡◌, map, take}
use Rattle.serde_json.specs.View.{view}
use Rattle.lsp_results.specs.Actions.{edit_json}
use Rattle.lsp_results.proofs.action.edits_value.Given as goal

abbrev pub invariant-loop-edit : goal.invariant-loop-edit
invariant-loop-edit l = map view l.items.items ≡ map (edit_json l.encoding l.document.text) (take l.edit-index l.edits)
