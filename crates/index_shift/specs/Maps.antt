-- The maps.
use Rattle.std.specs.Prelude.{ℕ, zero, suc, ◌<◌, ◌==◌, ◌⊎◌, if◌then◌else◌, List, [], ◌∷◌, ◌++◌, map, flat_map, length, position}
use Rattle.std.specs.Prelude.{slice_index_or, Option, None, Some}
use Rattle.raml_syntax.specs.Tree.{Type', Integer}
use Rattle.base_poly.specs.Plain.{Plain, deg, alike}
use Rattle.base_poly.specs.Indices.{index_list}
use Rattle.base_poly.specs.Product.{product}
use Rattle.base_poly.specs.Count.{tallied}
use Rattle.index_shift.specs.Parts.{type_parts, index_parts}
use Rattle.index_shift.specs.declared.entry.Entry.{Entry}

-- a list in which several items stand for the one at the place
abbrev pub in_place : {X : Type 0} → ℕ → (X → List X) → List X → List X
in_place at f [] = []
in_place zero f (x ∷ xs) = f x ++ xs
in_place (suc k) f (x ∷ xs) = x ∷ in_place k f xs

abbrev pub none : {X : Type 0} → X → List X
none x = []

abbrev pub twice : {X : Type 0} → X → List X
twice x = x ∷ x ∷ []

-- the tuples to which a tuple is carried, and how often each counts
abbrev pub Carry : Type 0
Carry = List Plain → List (List Plain × ℕ)

-- the indices before the place stay, and the rest is carried
abbrev pub behind : ℕ → Carry → Carry
behind zero c t = c t
behind (suc k) c [] = []
behind (suc k) c (i ∷ t) = map (λ e. (i ∷ e.0, e.1)) (behind k c t)

-- The first index is one of a type that is taken apart.
abbrev pub opens : Type' → Carry
opens A [] = []
opens A (i ∷ t) = map (λ r. (r ++ t, 1)) (index_parts A i)

-- The first index leaves: of its zero index the others stay, and any other goes nowhere.
abbrev pub leaves : Carry
leaves [] = []
leaves (i ∷ t) = if deg i == 0 then (t, 1) ∷ [] else []

-- The first two indices are multiplied.
abbrev pub joins : Carry
joins (i ∷ j ∷ t) = map (λ e. (e.0 ∷ t, e.1)) (tallied (product i j))
joins _ = []

abbrev pub entry_to : ℕ → ℕ → Option ℕ → List Entry
entry_to from times None = []
entry_to from times (Some to) = record { from = from; to = to; times = times } ∷ []

-- the entries from a position to those of the tuples that the list has
abbrev pub placed : List (List Plain) → ℕ → List (List Plain × ℕ) → List Entry
placed ts from es = flat_map (λ e. entry_to from e.1 (position (alike e.0) ts)) es

-- the entries from each tuple of the first list, the first at this position, to what it is carried to in the second list
abbrev pub entries_from : ℕ → Carry → List (List Plain) → List (List Plain) → List Entry
entries_from from c [] us = []
entries_from from c (t ∷ ts) us = placed us from (c t) ++ entries_from (suc from) c ts us

abbrev pub entries : Carry → List Type' → List Type' → ℕ → List Entry
entries c As Bs d = entries_from 0 c (index_list As d) (index_list Bs d)

-- the type at the place
abbrev pub variable_type : List Type' → ℕ → Type'
variable_type As at = slice_index_or As at Integer

-- from the context to the one with the parts of the variable in its place
abbrev pub opening : List Type' → ℕ → ℕ → List Entry
opening As at d = entries (behind at (opens (variable_type As at))) As (in_place at type_parts As) d

-- from the context to the one without the variable
abbrev pub leaving : List Type' → ℕ → ℕ → List Entry
leaving As at d = entries (behind at leaves) As (in_place at none As) d

-- from the context with the variable twice to the one that has it once
abbrev pub sharing : List Type' → ℕ → ℕ → List Entry
sharing As at d = entries (behind at joins) (in_place at twice As) As d

-- one of two contexts has more than 2000 tuples
abbrev pub IsTooLarge : List Type' → List Type' → ℕ → Type 0
IsTooLarge As Bs d = (2000 < length (index_list As d)) ⊎ (2000 < length (index_list Bs d))
