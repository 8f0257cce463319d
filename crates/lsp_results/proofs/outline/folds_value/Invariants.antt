use Rattle.std.proofs.Common.{◌≡◌, map, take}
use Rattle.std.specs.List.{filter}
use Rattle.serde_json.specs.View.{view}
use Rattle.lsp_results.specs.Outline.{fold_json, has_lines}
use Rattle.lsp_results.proofs.outline.folds_value.Given as goal

abbrev pub invariant-loop-symbol : goal.invariant-loop-symbol
invariant-loop-symbol l =
    map view l.items.items ≡ map (fold_json l.encoding l.document.text) (filter (has_lines l.encoding l.document.text) (take l.symbol-index l.symbols))
