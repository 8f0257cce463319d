use Rattle.std.proofs.Common.{◌≡◌, map, take}
use Rattle.serde_json.specs.View.{view}
use Rattle.lsp_results.specs.Outline.{symbol_json}
use Rattle.lsp_results.proofs.outline.symbols_value.Given as goal

abbrev pub invariant-loop-symbol : goal.invariant-loop-symbol
invariant-loop-symbol l = map view l.items.items ≡ map (symbol_json l.encoding l.document.text) (take l.symbol-index l.symbols)
