-- What is kept along a course, and the state that it tells.
use Rattle.std.specs.Prelude.{◌≡◌, ℕ, ℤ, true, List, Option}
use Rattle.std.specs.Fn.{Shared}
use Rattle.std.specs.Borrow.{Bor}
use Rattle.frac128.specs.declared.Frac.{Frac}
use Rattle.cost_free.specs.declared.task.Meter.{Meter}
use Rattle.cost_free.specs.declared.task.Meter.TheVariants.{Ticks, Cells, Work}
use Rattle.cost_free.specs.Task.{Task}
use Rattle.share_normal.specs.Program.{Kept}
use Rattle.annot_types.specs.Certificate.{Certificate}
use Rattle.annot_types.specs.Read.{blocks_of}
use Rattle.rules_plan.specs.Read.{program_in}
use Rattle.cert_check.specs.Course.{HasCome}
use Rattle.infer_spec.specs.States.{State, start, certificate_of}
use Rattle.infer_spec.specs.Generator.{Analysis, Stands}
use Rattle.infer_systems_laws.specs.Analysed.{analysis_of}
use Rattle.simplex_checked.specs.Choosing.{AnswersBy}
use Rattle.bound_infer.specs.Raised.{NoneOf, EachFits}
use Rattle.bound_infer.specs.declared.scales.Scales.{Scales}
use Rattle.bound_infer.specs.declared.run.Run.{Run}

abbrev pub scales_of : Scales → Meter → ℕ
scales_of s Ticks = s.ticks
scales_of s Cells = s.cells
scales_of s Work = s.work

abbrev pub state_of : Run → State
state_of run = record { blocks = blocks_of run.blocks.items; scales = scales_of run.scales }

-- a certificate of degree d, with work, before its first block
abbrev pub first_of : ℕ → Certificate
first_of d = certificate_of d true start

-- The schedule and the tables are those of the blocks, whose numbers are of 128 bits.
pub record Keeps (kept : Kept) (d : ℕ) (run : Run) : Type 0 where
  pub come : HasCome kept (first_of d) (blocks_of run.blocks.items) run.schedule run.earlier
  pub fit : EachFits (blocks_of run.blocks.items)

-- a program that is kept, analysed at degree d
abbrev pub analysis_in : Kept → ℕ → (List ℤ → ℤ → Option ℕ) → Analysis
analysis_in kept d pick = analysis_of (program_in kept) d pick

-- by whatever rule
abbrev pub StandsAt : Kept → ℕ → State → Task → Type 0
StandsAt kept d st task = (pick : List ℤ → ℤ → Option ℕ) → Stands (analysis_in kept d pick) st task

-- by each function of gains by which the rule answers
abbrev pub ByEach : {F : Type 0} → Shared F (Bor (List Frac) × Unit {0}) (Option ℕ) → F → ((List ℤ → ℤ → Option ℕ) → Type 0) → Type 0
ByEach g rule claim = (pick : List ℤ → ℤ → Option ℕ) → AnswersBy g rule pick → claim pick

-- a meter of which no block is solved has the scale 1
abbrev pub Begins : State → Type 0
Begins st = (meter : Meter) → NoneOf meter st.blocks → st.scales meter ≡ 1
