-- Steps and runs.
use Rattle.std.specs.Prelude.{◌≡◌, ℕ, ◌*◌, ◌^◌, ◌<◌, ◌≤◌, List, length, Option, Some, None, Result, Ok}
use Rattle.value_text.specs.Heap.{IsBelow}
use Rattle.value_text.specs.declared.word.Word.{Word}
use Rattle.stack_compile.specs.Code.{Body}
use Rattle.stack_compile.specs.Read.{code_at}
use Rattle.stack_compile.specs.declared.instr.Instr.{Instr}
use Rattle.stack_compile.specs.Machine.{fetch, step}
use Rattle.metered_vm.specs.Running.{state_of, halted_of, counted, IsFront, Grew, Stays}
use Rattle.metered_vm.specs.Moving.{TakesCell}
use Rattle.metered_vm.specs.declared.machine.Machine.{Machine}
use Rattle.metered_vm.specs.declared.steps.Outcome.{Outcome}
use Rattle.metered_vm.specs.declared.steps.Outcome.TheVariants as o
use Rattle.metered_vm.specs.declared.end.End.{End}
use Rattle.metered_vm.specs.declared.end.End.TheVariants as e
pub use Rattle.metered_vm.specs.Moving.{Came}

-- the instructions of the machine's function
abbrev pub body_at : List Body → Machine → List Instr
body_at code x = code_at code x.fun.0

-- what a step does, which is not counted yet, by what comes of it
abbrev pub Steps : List Body → Machine → Machine → Outcome → Type 0
Steps code x y o.Made = (counted (state_of y) ≡ step code (state_of x)) × Grew x y × (y.fun ≡ x.fun)
Steps code x y o.Moved = (counted (state_of y) ≡ step code (state_of x)) × Grew x y
Steps code x y (o.Halted w) = (counted (halted_of w y) ≡ step code (state_of x)) × Grew x y × IsBelow (length y.heap.cells) w
Steps code x y o.Full = Stays x y × (x.cells ≡ x.limit) × TakesCell (fetch code x.fun.0 x.place)

-- the word with which a run has halted
abbrev pub word_of : {E : Type 0} → Result End E → Option Word
word_of (Ok (e.Halted w)) = Some w
word_of _ = None

-- what is true at each end
abbrev pub EndsAt : List Body → ℕ → Machine → End → Type 0
EndsAt code steps y (e.Halted w) = IsBelow (length y.heap.cells) w
EndsAt code steps y e.Stopped = y.made ≡ steps
EndsAt code steps y e.HeapFull = (y.made < steps) × (y.cells ≡ y.limit) × TakesCell (fetch code y.fun.0 y.place)

-- how far a machine has come
abbrev pub Goes : ℕ → Machine → Machine → Type 0
Goes steps x y =
    (x.made ≤ y.made) × (y.made ≤ steps) × (y.ticks ≤ y.made * 2 ^ 32) × (y.limit ≡ x.limit) × IsFront x.heap.cells y.heap.cells
