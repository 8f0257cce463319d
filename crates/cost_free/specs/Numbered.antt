-- The tasks of functions of which the degrees of their targets are at hand, each 2^32 - 1 where it is greater.
use Rattle.std.specs.Prelude.{ℕ, suc, nat_le, cond, List, [], ◌∷◌, ◌++◌, map, flat_map, Option, slice_get}
use Rattle.raml_syntax.specs.Tree.{Type'}
use Rattle.base_poly.specs.Plain.{capped}
use Rattle.cost_free.specs.Target.{degree_of}
use Rattle.cost_free.specs.Task.{Task, Free}
use Rattle.cost_free.specs.Schedule.{targets_at}
use Rattle.cost_free.specs.Refused.{Plan}

abbrev pub degrees_at : Option Type' → ℕ → List ℕ
degrees_at A d = map (λ t. capped (degree_of t)) (targets_at A d)

-- each function with those of its targets
abbrev pub with_degrees : Plan → List ℕ → List (ℕ × List ℕ)
with_degrees plan funs = map (λ fun. (fun, degrees_at (slice_get plan.results fun) plan.degree)) funs

-- a function's tasks at a budget, whose targets are numbered from this number on
abbrev pub tasks_by : ℕ → ℕ → ℕ → ℕ → List ℕ → List Task
tasks_by group budget fun number [] = []
tasks_by group budget fun number (n ∷ ns) =
    cond (nat_le n budget) (record { group = group; kind = Free budget fun number } ∷ []) [] ++ tasks_by group budget fun (suc number) ns

-- those of all functions
abbrev pub tasks_of_all : ℕ → ℕ → List (ℕ × List ℕ) → List Task
tasks_of_all group budget numbered = flat_map (λ e. tasks_by group budget e.0 0 e.1) numbered
