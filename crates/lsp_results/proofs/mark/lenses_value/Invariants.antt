use Rattle.std.proofs.Common.{◌≡◌, map, take}
use Rattle.serde_json.specs.View.{view}
use Rattle.lsp_results.specs.Marks.{lens_json}
use Rattle.lsp_results.proofs.mark.lenses_value.Given as goal

abbrev pub invariant-loop-lens : goal.invariant-loop-lens
invariant-loop-lens l = map view l.items.items ≡ map (lens_json l.encoding l.document.text) (take l.lens-index l.lenses)
