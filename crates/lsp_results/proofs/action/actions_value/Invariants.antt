use Rattle.std.proofs.Common.{◌≡◌, map, take}
use Rattle.std.specs.List.{filter}
use Rattle.serde_json.specs.View.{view}
use Rattle.lsp_results.specs.Actions.{action_json, meets}
use Rattle.lsp_results.proofs.action.actions_value.Given as goal

abbrev pub invariant-loop-action : goal.invariant-loop-action
invariant-loop-action l = map view l.items.items ≡ map (action_json l.encoding l.document.text l.uri) (filter (meets l.from l.to) (take l.action-index l.actions))
