-- What a group reaches by calls.
use Rattle.std.specs.Prelude.{◌≡◌, ◌⊎◌, ℕ, List, [], ◌∷◌, ◌++◌, Option, Some, None, slice_get}
use Rattle.std.specs.List.{All, Contains}
use Rattle.raml_syntax.specs.Tree.{Prog}
use Rattle.raml_syntax.specs.declared.program.FunId.{FunId}
use Rattle.call_groups.specs.Groups.{Reaches}

-- a function of the group, or one that it reaches by calls
pub record IsReached (P : Prog) (group : List ℕ) (f : ℕ) : Type 0 where
  pub from : ℕ
  pub of_group : Contains group from
  pub reaches : Reaches P from f

-- all functions of the group or reached
abbrev pub AreReached : Prog → List ℕ → List FunId → Type 0
AreReached P group funs = All (λ (f : FunId). IsReached P group f.0) funs

-- ---- what the code has

abbrev pub or_none : Option (List ℕ) → List ℕ
or_none None = []
or_none (Some fs) = fs

-- the functions that the function at a place calls, where this is said for each function
abbrev pub callees_at : List (List ℕ) → ℕ → List ℕ
callees_at calls f = or_none (slice_get calls f)

-- each is one of the first ones or of the second ones
abbrev pub AreOfBoth : List FunId → List FunId → List FunId → Type 0
AreOfBoth first second funs = All (λ f. Contains first f ⊎ Contains second f) funs

-- the list, to which this may be added where it is so
abbrev pub MayAdd : {A : Type 0} → Type 0 → A → List A → List A → Type 0
MayAdd IsSo x old new = (new ≡ old) ⊎ (IsSo × (new ≡ old ++ x ∷ []))
