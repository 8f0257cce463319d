-- What is measured of a run.
use Rattle.std.specs.Prelude.{◌≡◌, ◌≤◌, ◌<◌, ◌^◌, ℕ, List, length, Option, Some, None, Ok, slice_get, string_bytes}
use Rattle.std.specs.List.{All}
use Rattle.raml_syntax.specs.Tree.{Text, Function, Prog}
use Rattle.raml_syntax.specs.Value.{Value, HaveTypes}
use Rattle.raml_syntax.specs.Types.{types_of}
use Rattle.raml_syntax.specs.Node.{program_nodes}
use Rattle.stack_compile.specs.Code.{bodies_of}
use Rattle.stack_compile.specs.Machine.{Halted}
use Rattle.stack_compile.specs.Laws.{at, IsGoing, Gives}
use Rattle.metered_vm.specs.Moving.{TakesCell}
use Rattle.metered_vm.specs.Ending.{next_of}
use Rattle.value_text.specs.Reading.{Answers}
use Rattle.value_text.specs.Stands.{StandForAll}
use Rattle.value_text.specs.declared.word.Word.{Word}
use Rattle.value_text.specs.declared.word.Cell.{Cell}
use Rattle.value_text.specs.Printing.{printed, most_text}
use Rattle.explain_runs.specs.declared.outcome.Limits.{Limits}
use Rattle.explain_runs.specs.declared.outcome.Measured.{Measured}
use Rattle.explain_runs.specs.declared.outcome.Outcome.{Outcome}
use Rattle.explain_runs.specs.declared.outcome.Outcome.TheVariants as o

-- the words stand in these cells for arguments of the function g, which stands at the place
pub record HasArguments (P : Prog) (f : ℕ) (cells : List Cell) (words : List Word) (g : Function) (args : List Value) : Type 0 where
  pub there : slice_get P f ≡ Some g
  pub stand : StandForAll cells words args
  pub types : HaveTypes args (types_of g)
  pub few_cells : length cells < 2 ^ 31

-- The machine has halted after so many instructions, with a value that evaluation has too; its text is as is told.
pub record HasHalted (P : Prog) (f : ℕ) (g : Function) (args : List Value) (made : ℕ) (Is : Text → Type 0) : Type 0 where
  pub value : Value
  pub halted : (at P f args made).at ≡ Halted value
  pub evaluated : Gives P g args value (at P f args made)
  pub told : Is (printed value g.result)

-- It goes on after so many instructions, which are all that were allowed.
pub record WasStopped (P : Prog) (f : ℕ) (args : List Value) (limits : Limits) (made : ℕ) : Type 0 where
  pub going : IsGoing (at P f args made).at
  pub all : made ≡ limits.steps

-- It goes on after fewer, all cells are taken that were allowed, and the next instruction takes one more.
pub record IsFull (P : Prog) (f : ℕ) (args : List Value) (limits : Limits) (made : ℕ) : Type 0 where
  pub going : IsGoing (at P f args made).at
  pub fewer : made < limits.steps
  pub all : (at P f args made).cells ≡ limits.cells
  pub takes : TakesCell (next_of (bodies_of P) (at P f args made).at)

-- how the run of the function g, which stands at the place f, ends after so many instructions
abbrev pub EndsAs : Prog → ℕ → Function → List Value → Limits → ℕ → Outcome → Type 0
EndsAs P f g args limits made (o.Halted value) = HasHalted P f g args made (λ text. string_bytes value ≡ text)
EndsAs P f g args limits made o.TooLong = HasHalted P f g args made (λ text. most_text < length text)
EndsAs P f g args limits made o.Stopped = WasStopped P f args limits made
EndsAs P f g args limits made o.HeapFull = IsFull P f args limits made

-- What is measured is the machine after as many instructions, within the limits, and how it ends.
pub record IsMeasured (P : Prog) (f : ℕ) (g : Function) (args : List Value) (limits : Limits) (m : Measured) : Type 0 where
  pub few_steps : m.instructions ≤ limits.steps
  pub few_cells : m.cells ≤ limits.cells
  pub made : (at P f args m.instructions).made ≡ m.instructions
  pub ticks : m.ticks ≡ (at P f args m.instructions).ticks
  pub cells : m.cells ≡ (at P f args m.instructions).cells
  pub ends : EndsAs P f g args limits m.instructions m.outcome

-- It is measured on the arguments that the data spells.
pub record IsMeasuredOn (P : Prog) (f : ℕ) (data' : Text) (limits : Limits) (m : Measured) : Type 0 where
  pub function : Function
  pub there : slice_get P f ≡ Some function
  pub args : List Value
  pub spelled : Answers data' (types_of function) (Ok args)
  pub measured : IsMeasured P f function args limits m

-- the longest data that is read
abbrev pub most_data : ℕ
most_data = 4194304

-- the data spells no arguments of the function at the place, or is too long
abbrev pub SpellsNone : Prog → ℕ → Text → Type 0
SpellsNone P f data' =
    (g : Function) (args : List Value) → slice_get P f ≡ Some g → length data' ≤ most_data →
    Answers data' (types_of g) (Ok args) → ⊥

abbrev pub IsMeasure : Prog → ℕ → Text → Limits → Option Measured → Type 0
IsMeasure P f data' limits None = SpellsNone P f data'
IsMeasure P f data' limits (Some m) = IsMeasuredOn P f data' limits m

-- what a program has whose functions can be run
pub record CanRun (P : Prog) : Type 0 where
  pub few_nodes : program_nodes P < 2 ^ 28
  pub parameters : All (λ (g : Function). 1 ≤ length g.params) P
  pub few_parameters : All (λ (g : Function). length g.params ≤ 8) P
