-- The systems of tasks, and what is asked of them.
use Rattle.std.specs.Prelude.{◌≡◌, ◌<◌, ℕ, nat_lt, Bool, not, cond, ℤ, pos, List, map, length, Option, Some, None}
use Rattle.linear_rows.specs.Systems.{LinearSystem, IsSystem, Solves, matrix, right_sides}
use Rattle.linear_rows.specs.Vectors.{dot, scale}
use Rattle.cost_free.specs.declared.task.Meter.{Meter}
use Rattle.cost_free.specs.Task.{Kind, Task}
use Rattle.cost_free.specs.Refused.{Plan, IsRefused}
use Rattle.annot_types.specs.Program.{Program, results, next_task, blocker_of}
use Rattle.annot_types.specs.Certificate.{Sig, Hint, Body, Solved, Block}
use Rattle.annot_types.specs.Holds.{Holds}
use Rattle.annot_types.specs.Held.{IsShaped}
use Rattle.annot_types.specs.Least.{solving, weight}
use Rattle.annot_types.specs.System.{system}
use Rattle.infer_spec.specs.States.{State, done, scale_at, raise}
use Rattle.infer_spec.specs.Good.{AllHold}

-- what of a task may exceed its limit
pub data What : Type 0 where
  Indices : What
  Unknowns : What
  Rows : What

-- For a task over the blocks before it: the signatures and the hints that numbers for its unknowns stand for. And
-- whether all contexts and types of the walks through the bodies of a task's group have few enough indices at its
-- budget.
pub record Generator : Type 0 where
  pub sigs : List Block → Task → List ℕ → List Sig
  pub hints : List Block → Task → List ℕ → List (List Hint)
  pub within : Task → Bool

-- The second system has the coefficients of the first, and right sides n times as great.
pub record AreRaised (n : ℕ) (s raised : LinearSystem) : Type 0 where
  pub unknowns : s.unknowns ≡ raised.unknowns
  pub coefficients : matrix s ≡ matrix raised
  pub right : right_sides raised ≡ scale (pos n) (right_sides s)

-- no more indices of a context or a type, unknowns or rows than this
abbrev pub most_allowed : ℕ
most_allowed = 2000

-- the first limit that a task with this system exceeds
abbrev pub limit_of : Generator → Task → LinearSystem → Option What
limit_of G task s =
    cond (not (G.within task)) (Some Indices)
    (cond (nat_lt most_allowed s.unknowns) (Some Unknowns)
    (cond (nat_lt most_allowed (length s.rows)) (Some Rows) None))

-- What is analysed: a program at degree d, with work or without it, and by which rule columns enter.
pub record Analysis : Type 0 where
  pub program : Program
  pub degree : ℕ
  pub work : Bool
  pub generator : Generator
  pub pick : List ℤ → ℤ → Option ℕ

module _ (A : Analysis) where
  abbrev pub next_at : State → Option Task
  next_at st = next_task A.program A.degree A.work (done st)

  abbrev pub plan : Plan
  plan = record { results = results A.program; groups = A.program.groups; degree = A.degree; work = A.work }

  -- The schedule does not go on: the next task is the first of its group, and a function of the group has a result with too many indices.
  abbrev pub IsRefusedAt : State → Type 0
  IsRefusedAt st = IsRefused most_allowed plan (done st)

  -- the function that a task waits for; where there is one, the task is not tried
  abbrev pub blocker_at : State → Task → Option ℕ
  blocker_at st task = blocker_of A.program task (done st)

  -- the system of a task over the blocks so far, at the scale of its meter
  abbrev pub system_at : State → Task → LinearSystem
  system_at st task = system A.program A.degree st.blocks task (scale_at st.scales task.kind)

  abbrev pub limit_at : State → Task → Option What
  limit_at st task = limit_of A.generator task (system_at st task)

  -- what numbers for its unknowns stand for
  abbrev pub body_at : State → Task → List ℕ → Body
  body_at st task x = Solved (A.generator.sigs st.blocks task x) (A.generator.hints st.blocks task x)

  abbrev pub block_at : State → Task → List ℕ → Block
  block_at st task x = record { task = task; body = body_at st task x }

  abbrev pub HoldsNow : State → Block → ℕ → Type 0
  HoldsNow st block t = Holds A.program A.degree st.blocks (scale_at st.scales block.task.kind) block t

  -- The blocks are a run so far whose solved blocks hold, and the task is the next one and is tried.
  pub record Stands (st : State) (task : Task) : Type 0 where
    pub positive : (meter : Meter) → 0 < st.scales meter
    pub hold : AllHold A.program A.degree st
    pub next : next_at st ≡ Some task
    pub tried : blocker_at st task ≡ None

  -- The system of a task is solved by what holds, and by nothing else.
  pub record Generates : Type 0 where
    pub system : (st : State) (task : Task) → Stands st task → IsSystem (system_at st task)
    -- numbers over t that solve it stand for what holds with t
    pub hold : (st : State) (task : Task) → Stands st task → (t : ℕ) (x : List ℕ) → 0 < t →
        Solves (system_at st task) (map pos x) (pos t) → HoldsNow st (block_at st task x) t
    pub shape : (st : State) (task : Task) → Stands st task → (t : ℕ) (x : List ℕ) → 0 < t →
        Solves (system_at st task) (map pos x) (pos t) → IsShaped (body_at st task x)
    -- and their weighted sum is that of the block
    pub weigh : (st : State) (task : Task) → Stands st task → (t : ℕ) (x : List ℕ) → 0 < t →
        Solves (system_at st task) (map pos x) (pos t) →
        dot (system_at st task).weights (map pos x) ≡ pos (weight A.program A.degree (block_at st task x))
    -- all that holds with a t comes from numbers over t that solve it, with this weighted sum
    pub solve : (st : State) (task : Task) → Stands st task → (t : ℕ) (sigs : List Sig) (hints : List (List Hint)) →
        HoldsNow st (solving task sigs hints) t →
        (x : List ℕ) × Solves (system_at st task) (map pos x) (pos t)
        × (dot (system_at st task).weights (map pos x) ≡ pos (weight A.program A.degree (solving task sigs hints)))
    -- where blocks and scales are raised, its rows keep their coefficients, and their right sides are raised
    pub raised : (st : State) (task : Task) → Stands st task → (kind : Kind) (r : ℕ) → 0 < r →
        (n : ℕ) × (0 < n) × AreRaised n (system_at st task) (system_at (raise kind r st) task)
