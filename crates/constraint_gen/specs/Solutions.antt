-- What solves the system of a task stands for what holds, and what holds solves it.
use Rattle.std.specs.Prelude.{◌≡◌, ◌<◌, ℕ, ℤ, pos, List, length, map}
use Rattle.linear_rows.specs.Vectors.{dot}
use Rattle.linear_rows.specs.Systems.{LinearSystem, Solves}
use Rattle.cost_free.specs.Task.{Task}
use Rattle.annot_types.specs.Program.{Program}
use Rattle.annot_types.specs.Certificate.{Sig, Hint, Block}
use Rattle.annot_types.specs.Holds.{Holds}
use Rattle.annot_types.specs.Least.{solving, weight}
use Rattle.annot_types.specs.System.{system}
use Rattle.rules_spec.specs.Systems.{IsTask}
use Rattle.rules_walk.specs.Remembers.{Tables, Remembers}
use Rattle.rules_systems_laws.specs.Arguments.{TellsArguments}
use Rattle.rules_systems_laws.specs.Laws.{told}

module _ (P : Program) (d : ℕ) (earlier : List Block) (task : Task) (scale : ℕ) where
  -- Natural numbers over t that solve the system that was made stand for signatures and hints that hold with t, whose
  -- weight is their weighted sum.
  abbrev pub SolutionsHoldFor : LinearSystem → Type 0
  SolutionsHoldFor made =
      (t : ℕ) (x : List ℕ) → 0 < t → Solves made (map pos x) (pos t) →
      Holds P d earlier scale (told P d earlier task x) t × (dot made.weights (map pos x) ≡ pos (weight P d (told P d earlier task x)))

  -- All signatures and hints that hold with a t come from numbers over t that solve it, whose weighted sum is their
  -- weight; these tell the very signatures.
  abbrev pub WhatHoldsSolvesIt : LinearSystem → Type 0
  WhatHoldsSolvesIt made =
      (t : ℕ) (sigs : List Sig) (hints : List (List Hint)) → Holds P d earlier scale (solving task sigs hints) t →
      (x : List ℕ)
      × Solves made (map pos x) (pos t)
      × (dot made.weights (map pos x) ≡ pos (weight P d (solving task sigs hints)))
      × TellsArguments P d task sigs x

  -- Where the numbers over a t solve the system of the task, these signatures and hints hold with t.
  abbrev pub HoldWhereSolved : List ℤ → List Sig → List (List Hint) → Type 0
  HoldWhereSolved numbers sigs hints =
      (t : ℕ) → 0 < t → Solves (system P d earlier task scale) numbers (pos t) → Holds P d earlier scale (solving task sigs hints) t

-- The numbers are one for each unknown of the system of the task, over blocks that the tables remember.
pub record HasOneEach (P : Program) (d : ℕ) (t : Tables) (task : Task) (numbers : List ℤ) : Type 0 where
  pub before : List Block
  pub scale : ℕ
  pub remembers : Remembers P d before t
  pub is_task : IsTask P d before task scale
  pub one_each : length numbers ≡ (system P d before task scale).unknowns
