-- What is told of a certificate that does not hold: the function, what is counted, and where it stands in the source.
use Rattle.std.specs.Prelude.{◌≡◌, ◌⊎◌, ◌≤◌, ℕ, Bool, List, [], ◌∷◌, ◌++◌, take, slice_get, Option, Some, None, option_map, codes}
use Rattle.raml_syntax.specs.Tree.{Text, Term, Function, Prog}
use Rattle.simple_types.specs.Walk.{place}
use Rattle.cost_free.specs.Task.{Task, Outcome, Kind, Free, With}
use Rattle.cost_free.specs.Refused.{IsRefused}
use Rattle.annot_types.specs.Program.{Program, members, results, next_task}
use Rattle.annot_types.specs.Holds.{budget_of}
use Rattle.rules_spec.specs.Plan.{Plan}
use Rattle.rules_spec.specs.Jobs.{body_of}
use Rattle.rules_plan.specs.Read.{GroupWithin}
use Rattle.report_text.specs.Names.{name_at, meter_text}
use Rattle.explain_check.specs.Checks.{fault_head}
use Rattle.explain_check.specs.Stores.{error_line}
use Rattle.explain_origins.specs.Paths.{origin_in, ◌>>=◌}

-- What it is told of: the names and the bytes of the files, the program and its normal form, and of the certificate the degree, whether
-- it counts work, and its tasks with their outcomes.
pub record Subject : Type 0 where
  pub file : Text
  pub source : Text
  pub certificate : Text
  pub program : Prog
  pub normal : Program
  pub degree : ℕ
  pub work : Bool
  pub done : List Outcome

-- the task of a block
abbrev pub task_in : List Outcome → ℕ → Option Task
task_in done block = option_map (λ (o : Outcome). o.0) (slice_get done block)

-- ---- functions and their places

-- the byte at which a function stands
abbrev pub at_function : Option Function → ℕ
at_function None = 0
at_function (Some g) = g.at

abbrev pub function_place : Prog → ℕ → ℕ
function_place P f = at_function (slice_get P f)

-- a function of the program
abbrev pub there : Prog → ℕ → Option ℕ
there P f = option_map (λ (g : Function). f) (slice_get P f)

abbrev pub first : List ℕ → Option ℕ
first [] = None
first (f ∷ fs) = Some f

-- The function of a task: the first of its group, and without cost that of its target. None where the program has no such function.
abbrev pub function_of_kind : List ℕ → Kind → Option ℕ
function_of_kind fs (Free budget f target) = Some f
function_of_kind fs (With meter) = first fs

abbrev pub function_of : Subject → Task → Option ℕ
function_of s task = function_of_kind (members s.normal task.group) task.kind >>= there s.program

-- ---- places of forms

-- the plan of a function's body, by which paths are told
abbrev pub plan_of : Program → ℕ → ℕ → ℕ → Plan
plan_of N group budget f = (body_of N (members N group) [] budget (slice_get N.funs f)).plan

abbrev pub place_or : ℕ → Option Term → ℕ
place_or at None = at
place_or at (Some e) = place e

-- the byte of the expression for which the form stands to which a path leads; that of the function where it leads to none
abbrev pub form_place : Subject → ℕ → ℕ → ℕ → List ℕ → ℕ
form_place s group budget f path = place_or (function_place s.program f) (origin_in s.program f (plan_of s.normal group budget f) path)

-- the walks of the group are small enough for plans
pub record HavePlans (s : Subject) (group budget : ℕ) : Type 0 where
  pub low : budget ≤ 4
  pub within : GroupWithin s.normal group budget

-- A condition that fails: of this task, in this function, which has this place in its group, and at this path.
pub record Failing : Type 0 where
  pub task : Task
  pub number : ℕ
  pub function : ℕ
  pub path : List ℕ

abbrev pub failing_in : Task → ℕ → List ℕ → List ℕ → Option Failing
failing_in task number path fs = option_map (λ f. record { task = task; number = number; function = f; path = path }) (slice_get fs number)

abbrev pub failing : Subject → ℕ → List ℕ → Option Failing
failing s block [] = None
failing s block (number ∷ path) = task_in s.done block >>= λ task. failing_in task number path (members s.normal task.group)

abbrev pub StandsAt : Subject → Failing → ℕ → Type 0
StandsAt s x at =
    (HavePlans s x.task.group (budget_of s.degree x.task.kind)
    × (at ≡ form_place s x.task.group (budget_of s.degree x.task.kind) x.function x.path))
    ⊎ ((HavePlans s x.task.group (budget_of s.degree x.task.kind) → ⊥) × (at ≡ function_place s.program x.function))

-- Of a task without cost, what fails at the path of the function alone may be its target: that stands at the function.
abbrev pub FailsAt : Subject → Failing → Kind → List ℕ → ℕ → Type 0
FailsAt s x (Free budget f target) [] at = at ≡ function_place s.program x.function
FailsAt s x kind path at = StandsAt s x at

-- ---- what is told

-- FUNCTION METER, or a task without cost in words
abbrev pub what : Prog → Kind → ℕ → Text
what P (Free budget f target) g = codes "a part of the result of " ++ (name_at P f ++ codes ", without costs")
what P (With meter) g = name_at P g ++ (codes " " ++ meter_text meter)

-- FILE:LINE:COLUMN: error: WHAT: and more
abbrev pub IsToldAt : Subject → Kind → ℕ → ℕ → Text → Type 0
IsToldAt s kind f at report =
    (rest : Text) × (report ≡ fault_head s.file s.source at ++ (what s.program kind f ++ (codes ": " ++ rest)))

-- the certificate is of another program
abbrev pub other_program : Subject → Text
other_program s = error_line s.certificate (codes "it is of another program")

-- at the function of a task
abbrev pub OfFunction : Subject → Task → Option ℕ → Text → Type 0
OfFunction s task None report = report ≡ other_program s
OfFunction s task (Some f) report = IsToldAt s task.kind f (function_place s.program f) report

abbrev pub OfTask : Subject → Option Task → Text → Type 0
OfTask s None report = report ≡ other_program s
OfTask s (Some task) report = OfFunction s task (function_of s task) report

-- at the place of a condition
abbrev pub OfFailing : Subject → Option Failing → Text → Type 0
OfFailing s None report = report ≡ other_program s
OfFailing s (Some x) report = (at : ℕ) × FailsAt s x x.task.kind x.path at × IsToldAt s x.task.kind x.function at report

-- The task that a block is to be of: the next of the schedule behind the blocks before it; and where the schedule has ended, or does not
-- go on, its own.
abbrev pub next_at : Subject → ℕ → Option Task
next_at s block = next_task s.normal s.degree s.work (take block s.done)

abbrev pub DoesNotGoOn : Subject → ℕ → Type 0
DoesNotGoOn s block =
    IsRefused 2000 (record { results = results s.normal; groups = s.normal.groups; degree = s.degree; work = s.work }) (take block s.done)

abbrev pub IsTaskAt : Subject → ℕ → Option Task → Type 0
IsTaskAt s block found =
    ((task : Task) × (next_at s block ≡ Some task) × (found ≡ Some task))
    ⊎ (((next_at s block ≡ None) ⊎ DoesNotGoOn s block) × (found ≡ task_in s.done block))
