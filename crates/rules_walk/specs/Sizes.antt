-- How many positions the functions of a group have.
use Rattle.std.specs.Prelude.{◌≡◌, ℕ, false, List, [], ◌∷◌, slice_get, Some}
use Rattle.normal_spec.specs.Norm.{NormFun}
use Rattle.normal_spec.specs.Context.{types}
use Rattle.cost_free.specs.Blocked.{is_among}
use Rattle.annot_types.specs.Program.{Program}
use Rattle.annot_types.specs.Rows.{size as size_of}

-- a function of the program, whose arguments and result have so many positions at the budget
pub record HasSizes (P : Program) (budget f : ℕ) (sizes : ℕ × ℕ) : Type 0 where
  pub fun : NormFun
  pub there : slice_get P.funs f ≡ Some fun
  pub args : sizes.0 ≡ size_of (types fun.params) budget
  pub result : sizes.1 ≡ size_of (fun.result ∷ []) budget

-- these functions of the program do, each of which is named once
abbrev pub AreSizes : Program → ℕ → List ℕ → List (ℕ × ℕ) → Type 0
AreSizes P budget [] [] = Unit {0}
AreSizes P budget (f ∷ fs) (s ∷ ss) = HasSizes P budget f s × (is_among f fs ≡ false) × AreSizes P budget fs ss
AreSizes P budget _ _ = ⊥
