-- Contexts: the variables that a form is to use up, in order, with their types.
use Rattle.std.specs.Prelude.{◌≡◌, ℕ, suc, nat_eq, cond, List, [], ◌∷◌, map, zip, false, Some}
use Rattle.raml_syntax.specs.Tree.{Type', PairOf, ListOf, TreeOf, OptionOf}
use Rattle.normal_spec.specs.Norm as n
use Rattle.normal_spec.specs.One.{type_or}
use Rattle.normal_spec.specs.Free.{among, find, has, put, used, unused}

abbrev pub Context : Type 0
Context = List (ℕ × Type')

abbrev pub types : Context → List Type'
types C = map (λ (b : ℕ × Type'). b.1) C

-- the place of a variable; the length where it is not there
abbrev pub place : ℕ → Context → ℕ
place x [] = 0
place x (b ∷ C) = cond (nat_eq x b.0) 0 (suc (place x C))

-- the variable stands in the context with this type
abbrev pub IsIn : ℕ → Type' → Context → Type 0
IsIn x A C = find x C ≡ Some A

-- its type; by default it is int
abbrev pub type_in : ℕ → Context → Type'
type_in x C = type_or (find x C)

abbrev pub without : ℕ → Context → Context
without x C = put x [] C

-- these variables, with the types that the type of the old one is taken to, in its place
abbrev pub opened : ℕ → List ℕ → (Type' → List Type') → Context → Context
opened x ys parts C = put x (zip ys (parts (type_in x C))) C

-- the types of the parts of a value that is taken apart
abbrev pub parts_of : Type' → List Type'
parts_of (PairOf A B) = A ∷ B ∷ []
parts_of (ListOf A) = A ∷ ListOf A ∷ []
parts_of (TreeOf A) = A ∷ TreeOf A ∷ TreeOf A ∷ []
parts_of (OptionOf A) = A ∷ []
parts_of _ = []

abbrev pub copies_of : Type' → List Type'
copies_of A = A ∷ A ∷ []

-- of a Let, what the bound expression uses, and the others
abbrev pub inners : n.Norm → Context → Context
inners a C = used a C

abbrev pub others : n.Norm → Context → Context
others a C = unused a C

-- new variables, which differ
abbrev pub AreNew : List ℕ → Context → Type 0
AreNew [] C = Unit {0}
AreNew (x ∷ xs) C = (has x C ≡ false) × (among x xs ≡ false) × AreNew xs C

-- no variable stands twice
abbrev pub Distinct : {B : Type 0} → List (ℕ × B) → Type 0
Distinct [] = Unit {0}
Distinct (b ∷ C) = (has b.0 C ≡ false) × Distinct C
