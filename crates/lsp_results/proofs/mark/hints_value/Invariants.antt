use Rattle.std.proofs.Common.{◌≡◌, map, take}
use Rattle.std.specs.List.{filter}
use Rattle.serde_json.specs.View.{view}
use Rattle.lsp_results.specs.Marks.{hint_json, is_between}
use Rattle.lsp_results.proofs.mark.hints_value.Given as goal

abbrev pub invariant-loop-hint : goal.invariant-loop-hint
invariant-loop-hint l = map view l.items.items ≡ map (hint_json l.encoding l.document.text) (filter (is_between l.from l.to) (take l.hint-index l.hints))
