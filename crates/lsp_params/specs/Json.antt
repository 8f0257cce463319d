-- Members of JSON.
use Rattle.std.specs.Prelude.{ℕ, ℤ, Bool, List, [], ◌∷◌, codes, Option, None, Some, option_map, option_and_then}
use Rattle.serde_json.specs.Data.{Data, Items, no_items, item}
use Rattle.serde_json.specs.Find.{get, as_str, as_bool, as_number, as_u64, as_i64, as_array}
use Rattle.lsp_positions.specs.declared.position.Position.{Position}
use Rattle.lsp_documents.specs.declared.change.Range.{Range}

abbrev pub listed : Items → List Data
listed no_items = []
listed (item d ds) = d ∷ listed ds

-- each is one, or there is none
abbrev pub each : {A B : Type 0} → (A → Option B) → List A → Option (List B)
each f [] = Some []
each f (x ∷ xs) = option_and_then (λ y. option_map (λ ys. y ∷ ys) (each f xs)) (f x)

abbrev pub text_in : List ℕ → Data → Option (List ℕ)
text_in key d = option_and_then as_str (get key d)

-- a number from 0 on, below 2^64
abbrev pub natural_in : List ℕ → Data → Option ℕ
natural_in key d = option_and_then as_u64 (option_and_then as_number (get key d))

-- a number of 64 bits with a sign
abbrev pub integer_in : List ℕ → Data → Option ℤ
integer_in key d = option_and_then as_i64 (option_and_then as_number (get key d))

abbrev pub truth_in : List ℕ → Data → Option Bool
truth_in key d = option_and_then as_bool (get key d)

abbrev pub list_in : List ℕ → Data → Option (List Data)
list_in key d = option_map listed (option_and_then as_array (get key d))

abbrev pub position_of : Data → Option Position
position_of d =
    option_and_then (λ line. option_map (λ character. record { line = line; character = character })
    (natural_in (codes "character") d)) (natural_in (codes "line") d)

abbrev pub position_in : List ℕ → Data → Option Position
position_in key d = option_and_then position_of (get key d)

abbrev pub range_of : Data → Option Range
range_of d =
    option_and_then (λ start. option_map (λ end. record { start = start; end = end })
    (position_in (codes "end") d)) (position_in (codes "start") d)

abbrev pub range_in : List ℕ → Data → Option Range
range_in key d = option_and_then range_of (get key d)
