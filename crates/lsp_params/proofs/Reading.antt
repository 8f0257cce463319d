-- Reading each item of a list, step by step.
use Rattle.std.proofs.Common.{◌≡◌, ℕ, ◌++◌, [], ◌∷◌, List, map, drop, Option, refl, ap}
use Rattle.std.specs.Prelude.{option_map}
use Rattle.serde_json.specs.Data.{Data}
use Rattle.serde_json.specs.View.{items_of}
use Rattle.lsp_params.specs.Json.{each, listed}

-- the items of an array are listed
pub listed_items : (ds : List Data) → listed (items_of ds) ≡ ds
listed_items [] = refl
listed_items (d ∷ ds) = ap (λ (more : List Data). d ∷ more) (listed_items ds)

-- what is read of all items, where these are read and the ones from n on are left
abbrev pub all_by : {V B : Type 0} → (Data → Option B) → (V → Data) → List B → List V → ℕ → Option (List B)
all_by f see read items n = option_map (λ more. read ++ more) (each f (map see (drop n items)))
