use Rattle.std.proofs.Common.{◌≡◌, ◌++◌, map, drop}
use Rattle.serde_json.specs.View.{view}
use Rattle.lsp_results.specs.Names.{location_of}
use Rattle.lsp_results.proofs.names.push_locations.Given as goal

abbrev pub invariant-loop-span : goal.invariant-loop-span
invariant-loop-span l =
    map view l.items.items ++ map (location_of l.encoding l.document.text l.uri) (drop l.span-index l.spans) ≡ map view l.initial.items.items ++ map (location_of l.encoding l.document.text l.uri) l.spans
