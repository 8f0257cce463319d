-- The job of a task as the code knows it, and its conditions.
use Rattle.std.specs.Prelude.{ℕ, suc, List, [], ◌∷◌, ◌++◌}
use Rattle.cost_free.specs.Task.{Task}
use Rattle.annot_types.specs.Program.{Program, members}
use Rattle.annot_types.specs.Rules.{Mode}
use Rattle.annot_types.specs.Holds.{mode_of, budget_of}
use Rattle.rules_spec.specs.Numbers.{Known, Hint, Condition}
use Rattle.rules_spec.specs.Walk.{at}
use Rattle.rules_spec.specs.Tasks as t
use Rattle.rules_spec.specs.Tasks.{Job}
use Rattle.rules_spec.specs.Jobs.{target_place, target_positions}
use Rattle.rules_walk.specs.Place.{body_walked}
use Rattle.rules_walk.specs.Remembers.{Tables, free_at, cost_at}
use Rattle.constraint_gen.specs.Sums.{Sum, sums}

-- over these tables, with these bodies
abbrev pub job_in : Program → ℕ → Tables → List t.Body → Task → ℕ → Job
job_in P d earlier bodies task scale = record {
  bodies = bodies;
  mode = mode_of task.kind;
  scale = scale;
  budget = budget_of d task.kind;
  free = free_at earlier;
  cost = cost_at earlier;
  function = target_place (members P task.group) task.kind;
  target = target_positions P d task.kind;
}

-- at each position the result has at least 1
abbrev pub reached : ℕ → List Sum → List ℕ → List (Condition Sum)
reached function result [] = []
reached function result (p ∷ ps) =
    record { path = function ∷ []; index = p; left = at sums result p; right = sums.number 1 } ∷ reached function result ps

-- the bodies from this place on
abbrev pub bodies_walked : Known Sum → Mode → ℕ → List t.Body → List (List (Hint Sum)) → List (Condition Sum)
bodies_walked G mode k [] hss = []
bodies_walked G mode k (b ∷ bs) [] = []
bodies_walked G mode k (b ∷ bs) (hs ∷ hss) = let w = body_walked sums G b.plan mode k hs in w.found ++ bodies_walked G mode (suc k) bs hss
