use Rattle.std.proofs.Common.{◌≡◌, map, take}
use Rattle.serde_json.specs.View.{view}
use Rattle.lsp_results.specs.Diagnostics.{related_json}
use Rattle.lsp_results.proofs.diagnostic.all_related_value.Given as goal

abbrev pub invariant-loop-one : goal.invariant-loop-one
invariant-loop-one l = map view l.items.items ≡ map (related_json l.encoding l.document.text l.uri) (take l.one-index l.related)
