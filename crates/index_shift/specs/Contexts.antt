-- Potential over a part of a context, and over a context in another order.
use Rattle.std.specs.Prelude.{◌≡◌, ◌≤◌, ◌-◌, ◌*◌, ℕ, zero, suc, Bool, true, false, if◌then◌else◌, List, [], ◌∷◌, length}
use Rattle.raml_syntax.specs.Tree.{Type'}
use Rattle.raml_syntax.specs.Value.{Value}
use Rattle.base_poly.specs.Plain.{Plain, degrees, alike}
use Rattle.base_poly.specs.Base.{total, bases}
use Rattle.base_poly.specs.Indices.{index_list}
use Rattle.index_shift.specs.Potential.{Annotation, potential, moved, Keeps}
use Rattle.index_shift.specs.Maps.{Carry, entries, entries_from}
use Rattle.index_shift.specs.declared.entry.Entry.{Entry}

-- the items whose mark is true, in their order
abbrev pub marked_items : {X : Type 0} → List Bool → List X → List X
marked_items (true ∷ marks) (x ∷ xs) = x ∷ marked_items marks xs
marked_items (false ∷ marks) (x ∷ xs) = marked_items marks xs
marked_items _ _ = []

-- the items whose mark is false, in their order
abbrev pub other_items : {X : Type 0} → List Bool → List X → List X
other_items (true ∷ marks) (x ∷ xs) = other_items marks xs
other_items (false ∷ marks) (x ∷ xs) = x ∷ other_items marks xs
other_items _ _ = []

-- Of a tuple whose other indices are these the marked ones stay, and any other tuple goes nowhere.
abbrev pub projects : List Bool → List Plain → Carry
projects marks others t = if alike (other_items marks t) others then (marked_items marks t, 1) ∷ [] else []

-- The projection of a context to its marked variables at a tuple of the others, which leaves so much of the degree.
abbrev pub projection : List Bool → List Type' → ℕ → List Plain → List Entry
projection marks As d others =
    entries_from 0 (projects marks others) (index_list As d) (index_list (marked_items marks As) (d - degrees others))

-- Each tuple of the other variables counts its base polynomial times the potential of the projection at it.
abbrev pub split_potential : List Bool → List Type' → ℕ → Annotation → List Value → ℕ
split_potential marks As d q vs =
    total
    (λ others. bases others (other_items marks vs) * potential (marked_items marks As) (d - degrees others)
    (moved (projection marks As d others) q) (marked_items marks vs))
    (index_list (other_items marks As) d)

-- Potential is that sum, where each variable has a mark.
abbrev pub PotentialSplits : Type 0
PotentialSplits = (marks : List Bool) (As : List Type') (d : ℕ) (q : Annotation) (vs : List Value) →
    length As ≤ length marks → potential As d q vs ≡ split_potential marks As d q vs

-- the item at this place of the list, or at its end
abbrev pub insertion : {X : Type 0} → ℕ → X → List X → List X
insertion zero x xs = x ∷ xs
insertion (suc k) x [] = x ∷ []
insertion (suc k) x (y ∷ ys) = y ∷ insertion k x ys

-- The items in another order: each stands at its place among those that were behind it.
abbrev pub permutation : {X : Type 0} → List ℕ → List X → List X
permutation (k ∷ places) (x ∷ xs) = insertion k x (permutation places xs)
permutation _ _ = []

-- The indices change their order as the variables do.
abbrev pub permutes : List ℕ → Carry
permutes places t = (permutation places t, 1) ∷ []

-- from a context to the one in the other order
abbrev pub permuting : List ℕ → List Type' → ℕ → List Entry
permuting places As d = entries (permutes places) As (permutation places As) d

-- Each variable has a place and a value.
abbrev pub PermutingKeeps : Type 0
PermutingKeeps = (places : List ℕ) (As : List Type') (d : ℕ) (vs : List Value) →
    length places ≡ length As → length vs ≡ length As →
    Keeps (permuting places As d) d As vs (permutation places As) (permutation places vs)
