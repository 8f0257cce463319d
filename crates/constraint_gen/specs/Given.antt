-- What is given to all bodies of a task.
use Rattle.std.specs.Prelude.{ℕ, ◌+◌, List, [], ◌∷◌, map, Vec}
use Rattle.std.specs.Global.{Global}
use Rattle.rules_spec.specs.Numbers.{Hint}
use Rattle.rules_spec.specs.Asked.{Ask, counts, answers}
use Rattle.rules_spec.specs.Tasks.{Body, sides_count, hints_count}

abbrev pub lists : {T : Type 0} → List (Vec T Global) → List (List T)
lists vs = map (λ v. v.items) vs

-- how many numbers all hints have, where this is what is asked for
abbrev pub all_counts : List (List Ask) → ℕ
all_counts [] = 0
all_counts (asks ∷ rest) = counts asks + all_counts rest

abbrev pub all_answers : {E : Type 0} → (ℕ → E) → ℕ → List (List Ask) → List (List (Hint E))
all_answers give from [] = []
all_answers give from (asks ∷ rest) = answers give from asks ∷ all_answers give (from + counts asks) rest

-- how many unknowns a task has, where these are the bodies of its group
abbrev pub unknowns_of : List Body → ℕ
unknowns_of bodies = sides_count bodies + hints_count bodies
