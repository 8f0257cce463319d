use Rattle.std.proofs.Common.{◌≡◌, map}
use Rattle.serde_json.specs.View.{view}
use Rattle.lsp_documents.specs.Changes.{replacements}
use Rattle.lsp_params.specs.Json.{each}
use Rattle.lsp_params.specs.Opened.{change_of}
use Rattle.lsp_params.proofs.Reading.{all_by}
use Rattle.lsp_params.proofs.opening.each_change.Given as goal

abbrev pub invariant-loop-item : goal.invariant-loop-item
invariant-loop-item l = each change_of (map view l.items) ≡ all_by change_of view (replacements l.changes.items) l.items l.item-index
