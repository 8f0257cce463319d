use Rattle.std.proofs.Common.{◌≡◌, map, take}
use Rattle.serde_json.specs.View.{view}
use Rattle.lsp_results.specs.Diagnostics.{diagnostic_json}
use Rattle.lsp_results.proofs.diagnostic.all_diagnostics_value.Given as goal

abbrev pub invariant-loop-diagnostic : goal.invariant-loop-diagnostic
invariant-loop-diagnostic l = map view l.items.items ≡ map (diagnostic_json l.encoding l.document.text l.uri) (take l.diagnostic-index l.diagnostics)
