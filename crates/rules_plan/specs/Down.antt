-- Lists of what there is at each budget.
use Rattle.std.specs.Prelude.{ℕ, zero, suc, ◌-◌, nat_le, List, [], ◌∷◌, map, filter, length}
use Rattle.std.specs.List.{range_with_len}
use Rattle.rules_plan.specs.declared.env.Reach.{Reach}
use Rattle.rules_plan.specs.declared.env.Reach.TheVariants.{Greatest, Down}

-- at this budget and at all lower ones
abbrev pub down : {X : Type 0} → (ℕ → X) → ℕ → List X
down f zero = f zero ∷ []
down f (suc d) = f (suc d) ∷ down f d

-- at the budgets that are reached
abbrev pub reached : {X : Type 0} → Reach → (ℕ → X) → ℕ → List X
reached Greatest f d = f d ∷ []
reached Down f d = down f d

-- of each item, the budget of the first of them given
abbrev pub each_down : {X Y : Type 0} → (ℕ → X → Y) → ℕ → List X → List Y
each_down f d [] = []
each_down f d (x ∷ xs) = f d x ∷ each_down f (d - 1) xs

-- of each item with one of another list
abbrev pub both_down : {X Y Z : Type 0} → (ℕ → X → Y → Z) → ℕ → List Y → List X → List Z
both_down f d [] xs = []
both_down f d (y ∷ ys) [] = []
both_down f d (y ∷ ys) (x ∷ xs) = f d x y ∷ both_down f (d - 1) ys xs

-- at each budget up to this one
abbrev pub up : {X : Type 0} → (ℕ → X) → ℕ → List X
up f d = map f (range_with_len 0 (suc d))

-- how many of the degrees are at most this budget
abbrev pub many_low : List ℕ → ℕ → ℕ
many_low gs d = length (filter (λ g. nat_le g d) gs)
