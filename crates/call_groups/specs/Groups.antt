-- Groups of functions that reach each other, and their order.
use Rattle.std.specs.Prelude.{◌≡◌, ◌≤◌, ◌<◌, ◌↔◌, ◌⊎◌, ℕ, List, [], ◌∷◌, ◌++◌, length, true}
use Rattle.std.specs.List.{Contains}
use Rattle.raml_syntax.specs.Tree.{Prog}
use Rattle.call_groups.specs.Calls.{calls, calls_of}

-- the second function is the first, or the calls of the first lead to it
pub data Reaches (P : Prog) : ℕ → ℕ → Type 0 where
  here : {f : ℕ} → Reaches P f f
  there : {f g h : ℕ} → calls P f g ≡ true → Reaches P g h → Reaches P f h

-- they are of one group
abbrev pub Together : Prog → ℕ → ℕ → Type 0
Together P f g = Reaches P f g × Reaches P g f

-- The function's group may come next: it is none of these before, and what the function reaches is in its group or before.
pub record MayCome (P : Prog) (before : List ℕ) (f : ℕ) : Type 0 where
  pub is_function : f < length P
  pub new : Contains before f → ⊥
  pub ready : (g : ℕ) → Reaches P f g → Contains before g ⊎ Reaches P g f

abbrev pub Ascends : List ℕ → Type 0
Ascends [] = Unit {0}
Ascends (f ∷ []) = Unit {0}
Ascends (f ∷ g ∷ fs) = (f < g) × Ascends (g ∷ fs)

-- Of the groups that may come next, this is the one with the least function. Its functions ascend.
pub record ComesNext (P : Prog) (before group : List ℕ) : Type 0 where
  pub least : ℕ
  pub may_come : MayCome P before least
  pub is_least : (f : ℕ) → MayCome P before f → least ≤ f
  pub members : (g : ℕ) → Contains group g ↔ Together P least g
  pub ascends : Ascends group

-- these groups come next, one after the other, and then every function was there
abbrev pub AreInOrder : Prog → List ℕ → List (List ℕ) → Type 0
AreInOrder P before [] = (f : ℕ) → f < length P → Contains before f
AreInOrder P before (group ∷ rest) = ComesNext P before group × AreInOrder P (before ++ group) rest

-- groups, and for each function the functions that it calls
pub record Grouping : Type 0 where
  pub list : List (List ℕ)
  pub calls : List (List ℕ)

-- the groups and the calls of a program
pub record IsGrouping (P : Prog) (g : Grouping) : Type 0 where
  pub in_order : AreInOrder P [] g.list
  pub calls : g.calls ≡ calls_of P
