-- Walks whose contexts and types are small enough.
use Rattle.std.specs.Prelude.{◌≤◌, ℕ, ◌-◌, [], ◌∷◌, ◌++◌, Option, None, Some}
use Rattle.std.specs.List.{All}
use Rattle.raml_syntax.specs.Tree.{Type'}
use Rattle.base_poly.specs.Plain.{degrees}
use Rattle.normal_spec.specs.Norm as n
use Rattle.normal_spec.specs.Norm.{Norm, NormFun}
use Rattle.normal_spec.specs.Context.{Context, types, without, opened, parts_of, copies_of, inners, others}
use Rattle.annot_types.specs.Carried.{tuples}
use Rattle.annot_types.specs.Rows.{size as size_of}

module _ (most : ℕ) where
  -- the context and the type have at most so many indices at the budget
  abbrev pub AreSmall : Context → Type' → ℕ → Type 0
  AreSmall C T d = (size_of (types C) d ≤ most) × (size_of (T ∷ []) d ≤ most)

  -- Of a form at this budget, all contexts and types that a walk comes to are small. A Let's bound form is walked at
  -- the budget that each tuple leaves.
  abbrev pub IsWithin : Norm → Context → Type' → ℕ → Type 0
  IsWithin (n.Let k x A a b) C T d = AreSmall C T d
      × All (λ j. IsWithin a (inners a C) A (d - degrees j)) (tuples (others a C) d)
      × IsWithin b (others a C ++ (x, A) ∷ []) T d
  IsWithin (n.Split k x y z a) C T d = AreSmall C T d × IsWithin a (opened x (y ∷ z ∷ []) parts_of C) T d
  IsWithin (n.If k x a b) C T d = AreSmall C T d × IsWithin a (without x C) T d × IsWithin b (without x C) T d
  IsWithin (n.CaseList k x a h t b) C T d =
      AreSmall C T d × IsWithin a (without x C) T d × IsWithin b (opened x (h ∷ t ∷ []) parts_of C) T d
  IsWithin (n.CaseTree k x a e y z b) C T d =
      AreSmall C T d × IsWithin a (without x C) T d × IsWithin b (opened x (e ∷ y ∷ z ∷ []) parts_of C) T d
  IsWithin (n.CaseOption k x a y b) C T d = AreSmall C T d × IsWithin a (without x C) T d × IsWithin b (opened x (y ∷ []) parts_of C) T d
  IsWithin (n.Tick k i a) C T d = AreSmall C T d × IsWithin a C T d
  IsWithin (n.Share k x y z a) C T d = AreSmall C T d × IsWithin a (opened x (y ∷ z ∷ []) copies_of C) T d
  IsWithin (n.Drop k x a) C T d = AreSmall C T d × IsWithin a (without x C) T d
  IsWithin e C T d = AreSmall C T d

  -- a function's body is walked from its parameters
  abbrev pub FunctionWithin : Option NormFun → ℕ → Type 0
  FunctionWithin None budget = Unit {0}
  FunctionWithin (Some g) budget = IsWithin g.body g.params g.result budget

-- a Let's bound form is walked, at each tuple of the variables that it does not use, at the budget that the tuple leaves
abbrev pub BoundWithin : ℕ → Norm → Context → Type' → ℕ → Type 0
BoundWithin most a C A d = All (λ j. IsWithin most a (inners a C) A (d - degrees j)) (tuples (others a C) d)

-- A form that is within a limit at a budget is within it at each lower one.
abbrev pub LowerAreWithin : Type 0
LowerAreWithin = (most : ℕ) (e : Norm) (C : Context) (T : Type') (low d : ℕ) → low ≤ d → IsWithin most e C T d → IsWithin most e C T low
