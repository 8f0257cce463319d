-- Runs that are drawn, each with the bound at its arguments.
use Rattle.std.specs.Prelude.{◌≡◌, ◌≤◌, ◌<◌, ◌⊎◌, ◌*◌, ◌^◌, ℕ, zero, suc, List, [], ◌∷◌, length, Option, Some, None, Ok, IfSome, SomeIff, slice_get}
use Rattle.std.specs.List.{Contains, insert}
use Rattle.raml_syntax.specs.Tree.{Text, Function, Prog}
use Rattle.raml_syntax.specs.Value.{Value, HaveTypes}
use Rattle.raml_syntax.specs.Types.{types_of}
use Rattle.raml_syntax.specs.Eval.{run_of}
use Rattle.cost_free.specs.declared.task.Meter.{Meter}
use Rattle.cost_free.specs.declared.task.Meter.TheVariants.{Ticks, Cells, Work}
use Rattle.base_poly.specs.Base.{elements}
use Rattle.annot_types.specs.Program.{Program}
use Rattle.annot_types.specs.Certificate.{Certificate}
use Rattle.stack_compile.specs.Laws.{at}
use Rattle.value_text.specs.Reading.{Answers}
use Rattle.analysis_report.specs.Floors.{IsFloor, Leaves}
use Rattle.analysis_report.specs.declared.bounds.FloorFault.{FloorFault}
use Rattle.analysis_report.specs.declared.bounds.FloorFault.TheVariants as fault
use Rattle.explain_runs.specs.declared.outcome.Limits.{Limits}
use Rattle.explain_runs.specs.declared.outcome.Measured.{Measured}
use Rattle.explain_runs.specs.declared.outcome.Outcome.{Outcome}
use Rattle.explain_runs.specs.declared.outcome.Outcome.TheVariants as o
use Rattle.explain_runs.specs.Measure.{IsMeasured}
use Rattle.explain_chart.specs.Chart.{Mark}
use Rattle.explain_chart.specs.Read.{mark_in}
use Rattle.explain_chart.specs.declared.mark.Mark.{Mark as Mark'}
use Rattle.explain_marks.specs.declared.marks.Given.{Given}
use Rattle.explain_marks.specs.declared.marks.Runs.{Runs}
use Rattle.explain_marks.specs.declared.marks.Runs.TheVariants as runs
use Rattle.explain_marks.specs.declared.reading.Reading.{Reading}
use Rattle.explain_marks.specs.declared.run.Run.{Run}

-- ---- bounds

-- what is drawn of a bound: four times that of work, where it fits 128 bits, since a unit of work takes at most four instructions; else the bound
abbrev pub IsDrawn : Meter → Option ℕ → Option ℕ → Type 0
IsDrawn Work (Some n) drawn = SomeIff drawn (n * 4 < 2 ^ 128) (n * 4)
IsDrawn meter floor drawn = drawn ≡ floor

-- what is drawn of the bound of a certificate at arguments; nothing where there is none, or where some bound is too large
abbrev pub BoundIs : Program → Certificate → ℕ → List Value → Meter → Option ℕ → Type 0
BoundIs N c f args meter drawn =
    ((floor : Option ℕ) × IsFloor N c f args meter floor × IsDrawn meter floor drawn)
    ⊎ ((other : Meter) × Leaves N c f args other × (drawn ≡ None))

-- a bound is too large
abbrev pub IsLeaving : FloorFault → Type 0
IsLeaving (fault.Leaves meter) = Unit {0}
IsLeaving fault.NoMemory = ⊥

-- no state of the machine, and no evaluation, costs more than the number
abbrev pub CostsAtMost : Meter → Prog → ℕ → Function → List Value → ℕ → Type 0
CostsAtMost Ticks P f g args n = (m : ℕ) → (at P f args m).ticks ≤ n
CostsAtMost Cells P f g args n = (m : ℕ) → (at P f args m).cells ≤ n
CostsAtMost Work P f g args n = (limit : ℕ) → 4 * (run_of P g args limit).work ≤ n

abbrev pub IsUpheld : Prog → ℕ → List Value → Meter → ℕ → Type 0
IsUpheld P f args meter n = (g : Function) → slice_get P f ≡ Some g → HaveTypes args (types_of g) → CostsAtMost meter P f g args n

-- how many elements the argument at the place has, which is 0 where it is no list and no tree
abbrev pub size_at : ℕ → List Value → ℕ
size_at zero (v ∷ vs) = length (elements v)
size_at (suc place) (v ∷ vs) = size_at place vs
size_at place [] = 0

-- the bound is that at the arguments, and it holds there; the size is that of the one at the place
abbrev pub AreReadAs : Prog → Program → Certificate → ℕ → Meter → ℕ → List Value → Option Reading → Type 0
AreReadAs P N c f meter place args read =
    IfSome read (λ r. BoundIs N c f args meter r.bound × IfSome r.bound (IsUpheld P f args meter) × (r.size ≡ size_at place args))

-- ---- runs

-- what a run cost; of work the instructions, since the machine does not count work
abbrev pub cost_of : Meter → Measured → ℕ
cost_of Ticks m = m.ticks
cost_of Cells m = m.cells
cost_of Work m = m.instructions

-- the run has halted
abbrev pub HasEnded : Outcome → Type 0
HasEnded (o.Halted value) = Unit {0}
HasEnded o.TooLong = Unit {0}
HasEnded outcome = ⊥

-- A run of the function at the place on the arguments that the data spells, which has halted, what it cost, and the bound at these
-- arguments; it costs no more than that.
pub record IsRun (P : Prog) (N : Program) (c : Certificate) (f : ℕ) (meter : Meter) (data' : Text) (cost : ℕ) (bound : Option ℕ) : Type 0 where
  pub function : Function
  pub there : slice_get P f ≡ Some function
  pub args : List Value
  pub spelled : Answers data' (types_of function) (Ok args)
  pub limits : Limits
  pub measured : Measured
  pub is : IsMeasured P f function args limits measured
  pub ended : HasEnded measured.outcome
  pub costs : cost ≡ cost_of meter measured
  pub bounded : BoundIs N c f args meter bound
  pub below : IfSome bound (λ n. cost ≤ n)

-- and the size is that of the argument at the place
abbrev pub IsSizedRun : Prog → Program → Certificate → ℕ → Meter → ℕ → Text → ℕ → Option ℕ → ℕ → Type 0
IsSizedRun P N c f meter place data' cost bound size = (is : IsRun P N c f meter data' cost bound) × (size ≡ size_at place is.args)

abbrev pub IsRunOf : Prog → Program → Certificate → ℕ → Meter → ℕ → Text → Run → Type 0
IsRunOf P N c f meter place data' run = IsSizedRun P N c f meter place data' run.cost run.bound run.size

-- such a run on some data is drawn
abbrev pub IsMark : Prog → Program → Certificate → ℕ → Meter → Mark → Type 0
IsMark P N c f meter m = (data' : Text) × IsRun P N c f meter data' m.cost m.bound

-- the run on the data of a file
abbrev pub IsFileMark : Prog → Program → Certificate → ℕ → Meter → ℕ → Given → Mark → Type 0
IsFileMark P N c f meter place file m = IsSizedRun P N c f meter place file.bytes.items m.cost m.bound m.size

-- that of one of these files
abbrev pub IsGivenMark : Prog → Program → Certificate → ℕ → Meter → ℕ → List Given → Mark → Type 0
IsGivenMark P N c f meter place files m = (file : Given) × Contains files file × IsFileMark P N c f meter place file m

-- where arguments come from: they are made by sizes, or stand in files, and the size is that of the one at a place
pub data Origin : Type 0 where
  OfSizes : Origin
  OfFiles : ℕ → List Given → Origin

abbrev pub origin_of : Runs → Origin
origin_of (runs.Made made) = OfSizes
origin_of (runs.Given place files) = OfFiles place files.now

-- a run of those that are asked for
abbrev pub IsMarkOf : Prog → Program → Certificate → ℕ → Meter → Origin → Mark → Type 0
IsMarkOf P N c f meter OfSizes m = IsMark P N c f meter m
IsMarkOf P N c f meter (OfFiles place files) m = IsGivenMark P N c f meter place files m

-- one that is so was added, or none
abbrev pub IsAdded : (Mark → Type 0) → List Mark' → List Mark' → Type 0
IsAdded Is old new = (new ≡ old) ⊎ ((place : ℕ) × (m : Mark') × Is (mark_in m) × (new ≡ insert old place m))
