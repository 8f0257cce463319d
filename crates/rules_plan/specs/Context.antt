-- Types by their places in contexts.
use Rattle.std.specs.Prelude.{◌≡◌, ℕ, List, [], ◌∷◌, slice_index_or}
use Rattle.raml_syntax.specs.Tree.{Type', Integer}
use Rattle.normal_spec.specs.Context.{Context, types}

-- the type at a place; by default it is int
abbrev pub type_at : ℕ → Context → Type'
type_at at C = slice_index_or (types C) at Integer

-- these are the variables in their order, with these types
abbrev pub AreInOrder : Context → List ℕ → List Type' → Type 0
AreInOrder [] [] [] = Unit {0}
AreInOrder (b ∷ C) (x ∷ xs) (A ∷ As) = (b.0 ≡ x) × (b.1 ≡ A) × AreInOrder C xs As
AreInOrder _ _ _ = ⊥
