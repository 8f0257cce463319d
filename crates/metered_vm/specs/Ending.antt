-- The ends of a run.
use Rattle.std.specs.Prelude.{◌≡◌, ◌<◌, ℕ, suc, ◌*◌, List, Option, Some, None, slice_get}
use Rattle.raml_syntax.specs.Tree.{Function}
use Rattle.raml_syntax.specs.Value.{Value}
use Rattle.raml_syntax.specs.Eval.{run_of}
use Rattle.stack_compile.specs.Code.{Body, bodies_of}
use Rattle.stack_compile.specs.Machine.{Config, Going, Halted, fetch}
use Rattle.stack_compile.specs.Laws.{IsGoing, Gives}
use Rattle.stack_compile.specs.declared.instr.Instr.{Instr}
use Rattle.value_text.specs.Stands.{StandsFor}
use Rattle.value_text.specs.declared.word.Word.{Word}
use Rattle.metered_vm.specs.Moving.{TakesCell}
use Rattle.metered_vm.specs.Seen.{Seen, program_in, fun_in, cells_in, args_in, limit_in, word_in, state_in}
use Rattle.metered_vm.specs.declared.end.End.{End}
use Rattle.metered_vm.specs.declared.end.End.TheVariants as e

-- the instruction that comes next
abbrev pub next_of : List Body → Config → Option Instr
next_of code (Going f p st ls fs) = fetch code f p
next_of code (Halted v) = None

-- of the function that was asked for
abbrev pub OfFunction : Seen → (Function → Type 0) → Type 0
OfFunction vm Q = (g : Function) → slice_get (program_in vm) (fun_in vm) ≡ Some g → Q g

-- it has halted with a word; evaluation gives what that stands for, with the same ticks and cells
pub record HasHalted (w : Word) (vm : Seen) : Type 0 where
  pub word : word_in vm ≡ Some w
  pub value : Value
  pub halted : (state_in vm).at ≡ Halted value
  pub stands : StandsFor (cells_in vm) w value
  pub gives : OfFunction vm (λ g. Gives (program_in vm) g (args_in vm) value (state_in vm))

-- it goes on, and so many instructions are made; evaluation at the next limit has more than a quarter as much work
pub record HasStopped (steps : ℕ) (vm : Seen) : Type 0 where
  pub going : IsGoing (state_in vm).at
  pub made : (state_in vm).made ≡ steps
  pub work : OfFunction vm (λ g. steps < 4 * (run_of (program_in vm) g (args_in vm) (suc steps)).work)

-- it goes on, fewer instructions are made, and the next one takes a cell where all are taken
pub record IsFull (steps : ℕ) (vm : Seen) : Type 0 where
  pub going : IsGoing (state_in vm).at
  pub made : (state_in vm).made < steps
  pub cells : (state_in vm).cells ≡ limit_in vm
  pub takes : TakesCell (next_of (bodies_of (program_in vm)) (state_in vm).at)

abbrev pub Ended : ℕ → End → Seen → Type 0
Ended steps (e.Halted w) vm = HasHalted w vm
Ended steps e.Stopped vm = HasStopped steps vm
Ended steps e.HeapFull vm = IsFull steps vm
