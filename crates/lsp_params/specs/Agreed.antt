-- How columns are counted.
use Rattle.std.specs.Prelude.{List, ℕ, [], ◌∷◌, Bool, false, cond, ◌||◌, codes, Option, None, Some, option_and_then}
use Rattle.std.specs.Str.{bytes_eq}
use Rattle.serde_json.specs.Data.{Data}
use Rattle.serde_json.specs.Find.{get, as_str}
use Rattle.lsp_positions.specs.declared.position.Encoding.{Encoding}
use Rattle.lsp_positions.specs.declared.position.Encoding.TheVariants.{Utf16, Utf8}
use Rattle.lsp_params.specs.Json.{list_in}

abbrev pub is_utf8 : Option (List ℕ) → Bool
is_utf8 None = false
is_utf8 (Some name) = bytes_eq name (codes "utf-8")

-- UTF-8 is among the encodings
abbrev pub offers_utf8 : List Data → Bool
offers_utf8 [] = false
offers_utf8 (d ∷ ds) = is_utf8 (as_str d) || offers_utf8 ds

abbrev pub best_of : Option (List Data) → Encoding
best_of None = Utf16
best_of (Some encodings) = cond (offers_utf8 encodings) Utf8 Utf16

-- the encodings that a client offers, at capabilities.general.positionEncodings
abbrev pub offered : Data → Option (List Data)
offered params =
    option_and_then (list_in (codes "positionEncodings")) (option_and_then (get (codes "general")) (get (codes "capabilities") params))

-- UTF-8 where the client offers it, and else UTF-16
abbrev pub agreed : Option Data → Encoding
agreed params = best_of (option_and_then offered params)
