-- The conditions of a task: those of its target, and then those of each body of its group.
use Rattle.std.specs.Prelude.{ℕ, suc, ◌+◌, List, [], ◌∷◌, ◌++◌, Option}
use Rattle.annot_types.specs.Rules.{Mode}
use Rattle.rules_spec.specs.Plan.{Plan}
use Rattle.rules_spec.specs.Numbers.{Numbers, Sides, Signature, Known, Hint, Condition, Walked}
use Rattle.rules_spec.specs.Walk.{at, walk, group_sides}
use Rattle.rules_spec.specs.Asked.{asked, counts, given, answers}
use Rattle.cost_free.specs.declared.task.Meter.{Meter}

-- a function of the group: the plan of its body, and how many positions its arguments and its result have
pub record Body : Type 0 where
  pub plan : Plan
  pub args : ℕ
  pub result : ℕ

-- The bodies of the group in order, the mode in which they are walked, the scale, the budget, the signatures of earlier
-- blocks, and the target: the place of its function in the group, and the positions of its tuples.
pub record Job : Type 0 where
  pub bodies : List Body
  pub mode : Mode
  pub scale : ℕ
  pub budget : ℕ
  pub free : ℕ → ℕ → Signature
  pub cost : Meter → ℕ → Option Signature
  pub function : ℕ
  pub target : List ℕ

-- how many numbers the signatures of the bodies have, and then how many their hints
abbrev pub sides_count : List Body → ℕ
sides_count [] = 0
sides_count (b ∷ bs) = b.args + b.result + sides_count bs

abbrev pub hints_count : List Body → ℕ
hints_count [] = 0
hints_count (b ∷ bs) = counts (asked b.plan) + hints_count bs

abbrev pub unknowns : Job → ℕ
unknowns j = sides_count j.bodies + hints_count j.bodies

-- what is given in the order of unknowns
module _ {E : Type 0} (give : ℕ → E) where
  abbrev pub sides_given : ℕ → List Body → List (Sides E)
  sides_given from [] = []
  sides_given from (b ∷ bs) =
      record { args = given give from b.args; result = given give (from + b.args) b.result } ∷ sides_given (from + (b.args + b.result)) bs

  abbrev pub hints_given : ℕ → List Body → List (List (Hint E))
  hints_given from [] = []
  hints_given from (b ∷ bs) = answers give from (asked b.plan) ∷ hints_given (from + counts (asked b.plan)) bs

-- what the walks of a job know, where the group has these signatures
abbrev pub known_by : {E : Type 0} → Job → List (Sides E) → Known E
known_by j group = record { scale = j.scale; budget = j.budget; group = group; free = j.free; cost = j.cost }

module _ {E : Type 0} (A : Numbers E) (j : Job) (group : List (Sides E)) where
  -- the body at a place of the group, with its signature and its hints
  abbrev pub of_body : ℕ → Body → List (Hint E) → Walked E
  of_body k b hs =
      let s = group_sides A (known_by j group) k in
      walk A (known_by j group) b.plan j.mode (k ∷ []) s.args s.result hs

  abbrev pub of_bodies : ℕ → List Body → List (List (Hint E)) → List (Condition E)
  of_bodies k [] hss = []
  of_bodies k (b ∷ bs) [] = []
  of_bodies k (b ∷ bs) (hs ∷ hss) = let w = of_body k b hs in w.found ++ of_bodies (suc k) bs hss

  -- at each position of the target the result has at least 1
  abbrev pub of_target : List ℕ → List (Condition E)
  of_target [] = []
  of_target (p ∷ ps) =
      let s = group_sides A (known_by j group) j.function in
      record { path = j.function ∷ []; index = p; left = at A s.result p; right = A.number 1 } ∷ of_target ps

  abbrev pub conditions : List (List (Hint E)) → List (Condition E)
  conditions hss = of_target j.target ++ of_bodies 0 j.bodies hss

-- those of what is given in the order of unknowns
abbrev pub given_conditions : {E : Type 0} → Numbers E → (ℕ → E) → Job → List (Condition E)
given_conditions A give j = conditions A j (sides_given give 0 j.bodies) (hints_given give (sides_count j.bodies) j.bodies)
