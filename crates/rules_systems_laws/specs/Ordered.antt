-- Programs whose groups are ordered.
use Rattle.std.specs.Prelude.{◌≡◌, ◌⊎◌, ℕ, nat_eq, true, false, List, [], ◌∷◌, take, slice_get, Some}
use Rattle.std.specs.List.{list_any}
use Rattle.normal_spec.specs.Norm.{NormFun}
use Rattle.normal_spec.specs.Uses.{Uses}
use Rattle.cost_free.specs.Blocked.{is_among, in_any}
use Rattle.annot_types.specs.Program.{Program, members, called_in}

-- no function comes twice
abbrev pub AreApart : List ℕ → Type 0
AreApart [] = Unit {0}
AreApart (f ∷ fs) = (list_any (nat_eq f) fs ≡ false) × AreApart fs

-- Each function uses its parameters; the groups have functions of the program, none twice in a group; and what a
-- function of a group calls is of that group or of an earlier one.
pub record IsOrdered (P : Program) : Type 0 where
  pub uses : (f : ℕ) (g : NormFun) → slice_get P.funs f ≡ Some g → Uses P.funs g.params g.body g.result
  pub there : (group f : ℕ) → is_among f (members P group) ≡ true → (g : NormFun) × (slice_get P.funs f ≡ Some g)
  pub apart : (group : ℕ) → AreApart (members P group)
  pub callees_first : (group f : ℕ) (g : NormFun) (callee : ℕ) → is_among f (members P group) ≡ true → slice_get P.funs f ≡ Some g →
      is_among callee (called_in g.body) ≡ true → (is_among callee (members P group) ≡ true) ⊎ (in_any callee (take group P.groups) ≡ true)
