use Rattle.std.proofs.Common.{map, Some, sym, ap, ◌∙◌}
use Rattle.std.specs.Prelude.{option_map, option_and_then}
use Rattle.serde_json.specs.Find.{as_array}
use Rattle.serde_json.specs.View.{view, items_of}
use Rattle.lsp_params.specs.Json.{listed}
use Rattle.lsp_params.proofs.Reading.{listed_items}
use Rattle.lsp_params.proofs.json.list_in.Goals as goal

pub returns : goal.returns
returns c =
    let items = c.as_slice.result.now in
    ap Some (sym (listed_items (map view items)))
    ∙ ap (λ xs. Some (listed (items_of (map view xs)))) c.as_slice.ensures.value
    ∙ ap (option_map listed) c.in_ok-as_array.ensures
    ∙ ap (λ o. option_map listed (option_and_then as_array o)) c.in_ok-get.ensures
