-- What solves the system of a task holds, and what holds solves it.
use Rattle.std.specs.Prelude.{◌≡◌, ◌<◌, ℕ, ◌+◌, pos, true, List, [], ◌∷◌, map, slice_get, position, Some, IsSome}
use Rattle.std.specs.List.{All}
use Rattle.base_poly.specs.Plain.{alike}
use Rattle.base_poly.specs.Indices.{index_list}
use Rattle.normal_spec.specs.Norm.{NormFun}
use Rattle.normal_spec.specs.Context.{types}
use Rattle.linear_rows.specs.Vectors.{dot}
use Rattle.linear_rows.specs.Systems.{Solves}
use Rattle.cost_free.specs.Target.{Target, targets}
use Rattle.cost_free.specs.Task as k
use Rattle.cost_free.specs.Task.{Task, Kind, Free}
use Rattle.cost_free.specs.Blocked.{is_among}
use Rattle.annot_types.specs.Program.{Program, members}
use Rattle.annot_types.specs.Certificate as c
use Rattle.annot_types.specs.Certificate.{Sig, Block}
use Rattle.annot_types.specs.Holds.{budget_of, Holds}
use Rattle.annot_types.specs.Least.{solving, weight}
use Rattle.annot_types.specs.Rows.{size}
use Rattle.annot_types.specs.System.{system}
use Rattle.rules_spec.specs.Systems.{IsTask}
use Rattle.rules_spec.specs.Told.{bodies_of, sigs_told, hints_told}
use Rattle.rules_systems_laws.specs.Arguments.{first_from, TellsArguments}

-- The number of a cost-free task is that of a target of its function, each tuple of which has a position at the task's budget.
abbrev pub IsNumbered : Program → ℕ → Kind → Type 0
IsNumbered P d (Free budget f number) =
    (g : NormFun) → slice_get P.funs f ≡ Some g →
    (target : Target) × (slice_get (targets g.result d) number ≡ Some target)
    × All (λ t. IsSome (position (alike t) (index_list (g.result ∷ []) budget))) target
IsNumbered P d (k.With meter) = Unit {0}

-- the block of a task that numbers stand for
abbrev pub told : Program → ℕ → List Block → Task → List ℕ → Block
told P d earlier task x = solving task (sigs_told (bodies_of P d earlier task) x) (hints_told (bodies_of P d earlier task) x)

-- Each solution x over t stands for signatures and hints that hold with t.
abbrev pub SolutionsHold : Type 0
SolutionsHold =
    (P : Program) (d : ℕ) (earlier : List Block) (task : Task) (scale t : ℕ) (x : List ℕ) →
    IsTask P d earlier task scale →
    IsNumbered P d task.kind →
    0 < t →
    Solves (system P d earlier task scale) (map pos x) (pos t) →
    Holds P d earlier scale (told P d earlier task x) t

-- The weighted sum of numbers for the unknowns is that of the signatures that they stand for.
abbrev pub SolutionsWeigh : Type 0
SolutionsWeigh =
    (P : Program) (d : ℕ) (earlier : List Block) (task : Task) (scale : ℕ) (x : List ℕ) →
    IsTask P d earlier task scale →
    dot (system P d earlier task scale).weights (map pos x) ≡ pos (weight P d (told P d earlier task x))

-- Numbers for the unknowns are those of the signatures that they stand for.
abbrev pub NumbersAreTold : Type 0
NumbersAreTold =
    (P : Program) (d : ℕ) (earlier : List Block) (task : Task) (scale : ℕ) (x : List ℕ) →
    IsTask P d earlier task scale →
    TellsArguments P d task (sigs_told (bodies_of P d earlier task) x) x

-- The unknowns of the arguments of a group's function are among those of the system.
abbrev pub ArgumentsAreUnknowns : Type 0
ArgumentsAreUnknowns =
    (P : Program) (d : ℕ) (earlier : List Block) (task : Task) (scale : ℕ) →
    IsTask P d earlier task scale →
    (f : ℕ) (fun : NormFun) → is_among f (members P task.group) ≡ true → slice_get P.funs f ≡ Some fun →
    (k : ℕ) → k < size (types fun.params) (budget_of d task.kind) →
    first_from P (budget_of d task.kind) 0 (members P task.group) f + k < (system P d earlier task scale).unknowns

-- All signatures and hints that hold with t come from a solution over t, with their weighted sum, which tells these very signatures.
abbrev pub WhatHoldsSolves : Type 0
WhatHoldsSolves =
    (P : Program) (d : ℕ) (earlier : List Block) (task : Task) (scale t : ℕ) (sigs : List Sig) (hints : List (List c.Hint)) →
    IsTask P d earlier task scale →
    Holds P d earlier scale (solving task sigs hints) t →
    (x : List ℕ)
    × Solves (system P d earlier task scale) (map pos x) (pos t)
    × (let s = system P d earlier task scale in dot s.weights (map pos x) ≡ pos (weight P d (solving task sigs hints)))
    × TellsArguments P d task sigs x
