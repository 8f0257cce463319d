-- Where tuples stand among those of a context.
use Rattle.std.specs.Prelude.{◌≡◌, ◌≤◌, ◌<◌, ◌-◌, ◌⊎◌, ℕ, suc, Bool, List, [], ◌∷◌, map, ◌++◌, length}
use Rattle.std.specs.List.{position_or_len, range_with_len}
use Rattle.raml_syntax.specs.Tree.{Type'}
use Rattle.base_poly.specs.Plain.{Plain, alike, degrees}
use Rattle.base_poly.specs.Indices.{index_list}
use Rattle.index_shift.specs.Contexts.{marked_items, other_items, permutation}
use Rattle.tuple_ranks.specs.Columns.{sizes}

-- the position of a tuple; the number of all where it has none
abbrev pub spot : List Type' → ℕ → List Plain → ℕ
spot As d t = position_or_len (alike t) (index_list As d)

-- Each tuple of one context in another order, where its indices stand for the variables of the other.
abbrev pub permuted_spots : List ℕ → List Type' → List Type' → ℕ → List ℕ
permuted_spots order As Bs d = map (λ t. spot Bs d (permutation order t)) (index_list As d)

-- of each tuple where its indices without a mark stand, and where the marked ones
abbrev pub half_spots : List Bool → List Type' → ℕ → List (ℕ × ℕ)
half_spots marks As d =
    map (λ t. (
      spot (other_items marks As) d (other_items marks t),
      spot
          (marked_items marks As) d (marked_items marks t),
    )) (index_list As d)

-- of each tuple j of As its degree, and where each tuple of Bs stands behind it whose degree is not too high
abbrev pub joined_spots : List Type' → List Type' → ℕ → List (ℕ × List ℕ)
joined_spots As Bs d = map (λ j. (degrees j, map (λ t. spot (As ++ Bs) d (j ++ t)) (index_list Bs (d - degrees j)))) (index_list As d)

-- how many tuples there are up to each degree from 0 on
abbrev pub all_counts : List Type' → ℕ → List ℕ
all_counts As d = map (λ g. length (index_list As g)) (range_with_len 0 (suc d))

-- the context has at most 2000 indices of degree at most d, or more
abbrev pub IsSmall : List Type' → ℕ → Type 0
IsSmall As d = length (index_list As d) ≤ 2000

abbrev pub IsLarge : List Type' → ℕ → Type 0
IsLarge As d = 2000 < length (index_list As d)

-- the same of a context whose types' indices have these degrees
abbrev pub AreSmall : List (List ℕ) → ℕ → Type 0
AreSmall pss d = (As : List Type') → sizes As d ≡ pss → IsSmall As d

abbrev pub AreLarge : List (List ℕ) → ℕ → Type 0
AreLarge pss d = (As : List Type') → sizes As d ≡ pss → IsLarge As d

-- of a context that is cut in two by marks, or of its others before a last type
abbrev pub AreCutLarge : List Bool → List (List ℕ) → List ℕ → ℕ → Type 0
AreCutLarge marks pss ps d =
    (As : List Type') (A : Type') → sizes As d ≡ pss → sizes (A ∷ []) d ≡ ps ∷ [] → IsLarge As d
    ⊎ IsLarge (other_items marks As ++ A ∷ []) d
