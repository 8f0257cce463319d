-- Documents that a client opens, changes and closes.
use Rattle.std.specs.Prelude.{ℕ, ℤ, List, codes, Option, None, Some, option_map, option_and_then}
use Rattle.serde_json.specs.Data.{Data}
use Rattle.serde_json.specs.Find.{get}
use Rattle.lsp_documents.specs.Changes.{Replacement}
use Rattle.lsp_documents.specs.declared.change.Range.{Range}
use Rattle.lsp_params.specs.Json.{each, text_in, integer_in, list_in, range_of}

-- a text that is opened
pub record Opening : Type 0 where
  pub uri : List ℕ
  pub version : ℤ
  pub text : List ℕ

abbrev pub opening_in : Data → Option Opening
opening_in d =
    option_and_then (λ uri. option_and_then (λ version. option_map (λ text. record { uri = uri; version = version; text = text })
    (text_in (codes "text") d)) (integer_in (codes "version") d)) (text_in (codes "uri") d)

abbrev pub opening_of : Data → Option Opening
opening_of params = option_and_then opening_in (get (codes "textDocument") params)

-- where no range is told, the whole text is replaced
abbrev pub any_range : Option Data → Option (Option Range)
any_range None = Some None
any_range (Some d) = option_map Some (range_of d)

abbrev pub change_of : Data → Option Replacement
change_of d =
    option_and_then (λ range. option_map (λ text. record { range = range; text = text })
    (text_in (codes "text") d)) (any_range (get (codes "range") d))

abbrev pub changes_of : Data → Option (List Replacement)
changes_of params = option_and_then (each change_of) (list_in (codes "contentChanges") params)

-- a document and its version, once it is changed
abbrev pub versioned_in : Data → Option (List ℕ × ℤ)
versioned_in d = option_and_then (λ uri. option_map (λ version. (uri, version)) (integer_in (codes "version") d)) (text_in (codes "uri") d)

abbrev pub versioned_of : Data → Option (List ℕ × ℤ)
versioned_of params = option_and_then versioned_in (get (codes "textDocument") params)
