use Rattle.std.proofs.Common.{◌≡◌, ◌++◌, map, drop}
use Rattle.serde_json.specs.View.{view}
use Rattle.lsp_results.specs.Names.{highlight_json}
use Rattle.lsp_results.proofs.names.push_read.Given as goal

abbrev pub invariant-loop-span : goal.invariant-loop-span
invariant-loop-span l =
    map view l.items.items ++ map (highlight_json l.encoding l.document.text 2) (drop l.span-index l.spans) ≡ map view l.initial.items.items ++ map (highlight_json l.encoding l.document.text 2) l.spans
