-- Where a declared bound is decided, as plain data.
use Rattle.std.specs.Prelude.{◌≡◌, ◌*◌, ℕ, ℤ, pos, List, map, slice_get, Option, None, Some}
use Rattle.linear_rows.specs.Terms.{SparseRow}
use Rattle.linear_rows.specs.Systems.{LinearSystem, Refutes}
use Rattle.farkas_check.specs.Checks.{EachPasses, refuting}
use Rattle.simplex_spec.specs.Courses.{rule_by}
use Rattle.simplex_checked.specs.Alone.{SolutionFits}
use Rattle.simplex_checked.specs.declared.fault.AnswerFault.{AnswerFault}
use Rattle.simplex_checked.specs.declared.fault.AnswerFault.TheVariants as a
use Rattle.cost_free.specs.Task as k
use Rattle.cost_free.specs.Task.{Task}
use Rattle.annot_types.specs.Program.{Program, blocker_of}
use Rattle.annot_types.specs.Certificate.{Block, Certificate}
use Rattle.annot_types.specs.Held as h
use Rattle.annot_types.specs.Held.{done_before, scale_for, Held}
use Rattle.annot_types.specs.System.{system}
use Rattle.rules_walk.specs.Remembers.{Tables, Remembers}
use Rattle.rules_plan.specs.Read.{program_in}
use Rattle.rules_systems_laws.specs.Laws.{told}
use Rattle.infer_spec.specs.Generator.{limit_of}
use Rattle.infer_spec.specs.Places.{RowFits}
use Rattle.infer_systems_laws.specs.Analysed.{generator_of}
use Rattle.infer_systems_laws.specs.Tried.{IsOrdered}
use Rattle.bound_file.specs.Lines.{Line}
use Rattle.other_blocks.specs.Over.{Over}
use Rattle.bound_contract.specs.Decided.{Decided, Kept, NotKept, Calls, IsOwn}
use Rattle.bound_contract.specs.System.{first, count}
use Rattle.bound_contract.specs.Kept.{system_there, KeepsThere, NoneKeepsThere}
use Rattle.bound_contract.specs.Places.{Place, RescaleLeaves, IsFirst, IsClear}
use Rattle.bound_contract.specs.Clear.{AreFine}
use Rattle.bound_file.specs.Read.{coefficients_of}
use Rattle.bound_contract.specs.Read.{AllPositive, place_of, OfPlace}
use Rattle.bound_contract.specs.declared.fault.DecideFault.{DecideFault}
use Rattle.bound_contract.specs.declared.site.Site.{Site}

abbrev pub program_at : Site → Program
program_at site = program_in site.checked.now.program

abbrev pub certificate_at : Site → Certificate
certificate_at site = site.checked.now.certificate

abbrev pub line_at : Site → Line
line_at site = record { fun = site.fun.0; meter = site.meter; bound = coefficients_of site.bound.now }

abbrev pub task_at : Site → Task
task_at site = record { group = site.group; kind = k.With site.meter }

-- the blocks before the place, and the scale of the meter
abbrev pub before_at : Site → List Block
before_at site = h.before (certificate_at site) site.place

abbrev pub scale_at : Site → ℕ
scale_at site = scale_for (certificate_at site) (k.With site.meter)

-- the task's system, and the same with the line
abbrev pub own_at : Site → LinearSystem
own_at site = system (program_at site) (certificate_at site).degree (before_at site) (task_at site) (scale_at site)

abbrev pub system_at : Site → LinearSystem
system_at site = system_there (program_at site) (certificate_at site) site.place (task_at site) (line_at site)

-- where the unknowns of the line's function begin, and how many its arguments have
abbrev pub first_at : Site → ℕ
first_at site = first (program_at site) (certificate_at site).degree (before_at site) (task_at site) (scale_at site) (line_at site)

abbrev pub count_at : Site → ℕ
count_at site = count (program_at site) (certificate_at site).degree (before_at site) (task_at site) (scale_at site) (line_at site)

-- The certificate's block stands there. Its task does not wait, and exceeds no limit.
pub record IsSite (site : Site) : Type 0 where
  pub held : Held (program_at site) (certificate_at site)
  pub ordered : IsOrdered (program_at site)
  pub own : Block
  pub own_is : IsOwn (program_at site) (certificate_at site) (line_at site) site.place own
  pub task_is : own.task ≡ task_at site
  pub tried : blocker_of (program_at site) (task_at site) (done_before (certificate_at site) site.place) ≡ None
  pub within : limit_of (generator_of (program_at site) (certificate_at site).degree) (task_at site) (own_at site) ≡ None
  pub positive : AllPositive site.bound.now

-- the tables are those of the blocks before the place
abbrev pub AreBefore : Site → Tables → Type 0
AreBefore site t = Remembers (program_at site) (certificate_at site).degree (before_at site) t

abbrev pub FirstAt : Site → (List ℤ → ℤ → Option ℕ) → Place → Type 0
FirstAt site pick p = IsFirst (program_at site) (certificate_at site) site.place (task_at site) (line_at site) pick p

abbrev pub StopsWith : Site → (List ℤ → ℤ → Option ℕ) → DecideFault → Type 0
StopsWith site pick fault = OfPlace (place_of fault) (FirstAt site pick)

-- the fault is the first place, by whatever rule columns enter
abbrev pub StopsAt : Site → DecideFault → Type 0
StopsAt site fault = (pick : List ℤ → ℤ → Option ℕ) → StopsWith site pick fault

-- the numbers of the task's rows fit
abbrev pub OwnFits : Site → Type 0
OwnFits site = (place : ℕ) (row : SparseRow) → slice_get (own_at site).rows place ≡ Some row → RowFits row

-- and so do those of the line, and there are few enough
abbrev pub FineAt : Site → (List ℤ → ℤ → Option ℕ) → Type 0
FineAt site pick = AreFine (program_at site) (certificate_at site) site.place (task_at site) (line_at site) pick

-- no place comes
abbrev pub ClearAt : Site → (List ℤ → ℤ → Option ℕ) → Type 0
ClearAt site pick = IsClear (program_at site) (certificate_at site) site.place (task_at site) (line_at site) pick

-- a number of an earlier block of the meter, or the scale, leaves when it is multiplied
abbrev pub RescaleAt : Site → ℕ → ℕ → Type 0
RescaleAt site t block =
    RescaleLeaves (program_at site) (certificate_at site) site.place (task_at site) (line_at site) (λ gains over. None) t block

-- a solution that fits is read, over this denominator
abbrev pub ReadsAt : Site → (List ℤ → ℤ → Option ℕ) → ℕ → List ℕ → Type 0
ReadsAt site pick t x = SolutionFits (rule_by pick) (system_at site) t x

-- the block is what the solution x stands for
pub record IsToldBy (site : Site) (pick : List ℤ → ℤ → Option ℕ) (t : ℕ) (x : List ℕ) (block : Block) : Type 0 where
  pub reads : ReadsAt site pick t x
  pub is : block ≡ told (program_at site) (certificate_at site).degree (before_at site) (task_at site) x

-- so by some rule
pub record IsToldAt (site : Site) (t : ℕ) (block : Block) : Type 0 where
  pub pick : List ℤ → ℤ → Option ℕ
  pub x : List ℕ
  pub told_by : IsToldBy site pick t x block

-- by some rule such a solution is read, of these numbers
pub record IsReadAt (site : Site) (times : ℤ) (numbers : List ℤ) : Type 0 where
  pub pick : List ℤ → ℤ → Option ℕ
  pub t : ℕ
  pub x : List ℕ
  pub times_is : times ≡ pos t
  pub numbers_are : numbers ≡ map pos x
  pub reads : ReadsAt site pick t x

-- the fault is not of the check that a solution is least
abbrev pub IsNotLeast : AnswerFault → Type 0
IsNotLeast (a.Least column) = ⊥
IsNotLeast fault = Unit {0}

-- The block holds with t in its place, and its annotation lies under the line.
abbrev pub KeepsAt : Site → Block → ℕ → Type 0
KeepsAt site block t = KeepsThere (program_at site) (certificate_at site) site.place (task_at site) (line_at site) block t

-- Another block of the task keeps the line, over the certificate's scale times t.
pub record IsKeptAt (site : Site) (t : ℕ) (o : Over) : Type 0 where
  pub program_is : o.program ≡ site.checked.now.program
  pub degree : o.degree ≡ (certificate_at site).degree
  pub task_is : o.block.task ≡ task_at site
  pub scale : o.scale ≡ scale_at site * t
  pub keeps : KeepsAt site o.block t

-- Nothing keeps it, and the vector passed the check that it refutes the line's system.
pub record IsNotKeptAt (site : Site) (y : List ℤ) : Type 0 where
  pub none : NoneKeepsThere (program_at site) (certificate_at site) site.place (task_at site) (line_at site)
  pub refutes : Refutes (system_at site) y
  pub passes : EachPasses (refuting (system_at site) y)

abbrev pub IsDecidedAt : Site → Decided → Type 0
IsDecidedAt site (Kept o) = (t : ℕ) × IsKeptAt site t o
IsDecidedAt site (NotKept y) = IsNotKeptAt site y
IsDecidedAt site (Calls f) = ⊥
