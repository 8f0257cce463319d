use Rattle.std.proofs.Common.{◌≡◌, ◌++◌, map, drop}
use Rattle.serde_json.specs.View.{view}
use Rattle.lsp_results.specs.Renames.{rename_json}
use Rattle.lsp_results.proofs.rename.push_renames.Given as goal

abbrev pub invariant-loop-span : goal.invariant-loop-span
invariant-loop-span l =
    map view l.items.items ++ map (rename_json l.encoding l.document.text l.name) (drop l.span-index l.spans) ≡ map view l.initial.items.items ++ map (rename_json l.encoding l.document.text l.name) l.spans
