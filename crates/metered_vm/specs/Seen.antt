-- What callers see of a machine.
use Rattle.std.specs.Prelude.{◌≡◌, ◌≤◌, ℕ, List, ◌++◌, Option, Some, slice_get}
use Rattle.std.specs.List.{All}
use Rattle.raml_syntax.specs.Tree.{Function, Prog}
use Rattle.raml_syntax.specs.Value.{Value, HaveTypes}
use Rattle.raml_syntax.specs.Types.{types_of, Typed}
use Rattle.raml_syntax.specs.Node.{AllNodes, NumberFits}
use Rattle.raml_syntax.specs.Read.{program_of}
use Rattle.raml_syntax.specs.declared.program.Program.{Program}
use Rattle.stack_compile.specs.Machine.{State, start}
use Rattle.stack_compile.specs.Laws.{at}
use Rattle.value_text.specs.Stands.{StandForAll}
use Rattle.value_text.specs.Held.{held}
use Rattle.value_text.specs.declared.word.Word.{Word}
use Rattle.value_text.specs.declared.word.Cell.{Cell}
use Rattle.metered_vm.specs.Running.{values_of, state_with}
use Rattle.metered_vm.specs.declared.machine.Machine.{Machine}

-- the program, the function that was asked for, the words of its arguments, the machine, and the word with which it has halted
pub record Seen : Type 0 where
  pub program : Program
  pub fun : ℕ
  pub args : List Word
  pub machine : Machine
  pub word : Option Word

abbrev pub program_in : Seen → Prog
program_in vm = program_of vm.program

abbrev pub fun_in : Seen → ℕ
fun_in vm = vm.fun

abbrev pub cells_in : Seen → List Cell
cells_in vm = vm.machine.heap.cells

-- what the words of the arguments stand for
abbrev pub args_in : Seen → List Value
args_in vm = values_of (held (cells_in vm)) vm.args

-- how many cells may be taken
abbrev pub limit_in : Seen → ℕ
limit_in vm = vm.machine.limit

abbrev pub word_in : Seen → Option Word
word_in vm = vm.word

abbrev pub state_in : Seen → State
state_in vm = state_with vm.word vm.machine

-- there is such a function, and the words stand for values of its parameters' types
pub record HaveArguments (P : Prog) (f : ℕ) (cells : List Cell) (words : List Word) : Type 0 where
  pub function : Function
  pub there : slice_get P f ≡ Some function
  pub values : List Value
  pub stand : StandForAll cells words values
  pub types : HaveTypes values (types_of function)

-- what is true of every machine: its program is typed, its arguments have the function's types, and it is where the function comes to after
-- as many instructions
pub record Kept (vm : Seen) : Type 0 where
  pub function : Function
  pub there : slice_get (program_in vm) (fun_in vm) ≡ Some function
  pub typed : Typed (program_in vm)
  pub numbers : All (λ (g : Function). AllNodes NumberFits g.body) (program_in vm)
  pub types : HaveTypes (args_in vm) (types_of function)
  pub state : state_in vm ≡ at (program_in vm) (fun_in vm) (args_in vm) (state_in vm).made
  pub cells : (state_in vm).cells ≤ limit_in vm

-- a machine that has made no instruction
pub record Begins (P : Prog) (f : ℕ) (cells : List Cell) (words : List Word) (limit : ℕ) (vm : Seen) : Type 0 where
  pub program : program_in vm ≡ P
  pub fun : fun_in vm ≡ f
  pub arguments : (values : List Value) → StandForAll cells words values → args_in vm ≡ values
  pub heap : cells_in vm ≡ cells
  pub most : limit_in vm ≡ limit
  pub state : state_in vm ≡ start f (args_in vm)

-- a machine later: cells are only added, and a halted one stays as it is
pub record GoesOn (steps : ℕ) (old new : Seen) : Type 0 where
  pub program : program_in new ≡ program_in old
  pub fun : fun_in new ≡ fun_in old
  pub arguments : args_in new ≡ args_in old
  pub most : limit_in new ≡ limit_in old
  pub heap : (more : List Cell) × (cells_in new ≡ cells_in old ++ more)
  pub made : (state_in old).made ≤ (state_in new).made
  pub few : (state_in new).made ≤ steps
  pub halted : (w : Word) → word_in old ≡ Some w → (word_in new ≡ Some w) × (state_in new ≡ state_in old)
