-- Single instructions.
use Rattle.std.specs.Prelude.{◌≡◌, ◌+◌, List, [], ◌∷◌, Option, Some}
use Rattle.raml_syntax.specs.Value.{Value}
use Rattle.raml_syntax.specs.declared.program.FunId.{FunId}
use Rattle.value_text.specs.declared.word.Word.{Word}
use Rattle.stack_compile.specs.Code.{Body}
use Rattle.stack_compile.specs.Machine.{Config, Going, Halted, State, Move, act, moved}
use Rattle.stack_compile.specs.Ready.{Finds}
use Rattle.stack_compile.specs.declared.instr.Instr.{Instr}
use Rattle.stack_compile.specs.declared.instr.Instr.TheVariants as instr
use Rattle.stack_compile.specs.declared.instr.Instr.TheVariants.{Pair, Cons, Node, Call}
use Rattle.metered_vm.specs.Running.{state_of, state_with, counted, stack_in, locals_in}
use Rattle.metered_vm.specs.declared.machine.Machine.{Machine}

-- what an instruction does that needs no code, as all but calls
abbrev pub acts_at : Instr → Config → Move
acts_at i (Going f p st ls fs) = act [] (Some i) f p st ls fs
acts_at i (Halted v) = record { next = Halted v; ticks = 0; cells = 0; made = 0 }

abbrev pub acts : Instr → State → State
acts i s = moved s (acts_at i s.at)

-- what a call of a function does, where these are the bodies
abbrev pub calls_at : List Body → FunId → Config → Move
calls_at code g (Going f p st ls fs) = act code (Some (Call g)) f p st ls fs
calls_at code g (Halted v) = record { next = Halted v; ticks = 0; cells = 0; made = 0 }

abbrev pub calls : List Body → FunId → State → State
calls code g s = moved s (calls_at code g s.at)

-- the machine is in this state, or, where there is a word, it has halted with that
abbrev pub Came : Option Word → Machine → State → Type 0
Came o y s = state_with o y ≡ s

-- and so once the instruction is counted
abbrev pub Comes : Option Word → Machine → State → Type 0
Comes o y s = counted (state_with o y) ≡ s

-- the machine finds what the instruction takes
abbrev pub CanMake : Instr → Machine → Type 0
CanMake i x = Finds [] (Some i) (stack_in x) (locals_in x)

-- the machine made the instruction, which is not counted yet
abbrev pub Makes : Instr → Machine → Machine → Type 0
Makes i x y = counted (state_of y) ≡ acts i (state_of x)

-- the instruction takes a cell
abbrev pub TakesCell : Option Instr → Type 0
TakesCell (Some Pair) = Unit {0}
TakesCell (Some Cons) = Unit {0}
TakesCell (Some Node) = Unit {0}
TakesCell (Some instr.Some) = Unit {0}
TakesCell _ = ⊥

-- a value pushed
abbrev pub pushed_at : Value → Config → Config
pushed_at v (Going f p st ls fs) = Going f (p + 1) (v ∷ st) ls fs
pushed_at v (Halted u) = Halted u

abbrev pub Pushes : Value → Machine → Machine → Type 0
Pushes v x y = state_of y ≡ (let s = state_of x in record s { at = pushed_at v s.at })

-- and a cell taken for it
abbrev pub PushesCell : Value → Machine → Machine → Type 0
PushesCell v x y = state_of y ≡ (let s = state_of x in record s { at = pushed_at v s.at; cells = s.cells + 1 })

-- the stack changed
abbrev pub operates_at : (List Value → List Value) → Config → Config
operates_at f (Going g p st ls fs) = Going g (p + 1) (f st) ls fs
operates_at f (Halted u) = Halted u

abbrev pub Operates : (List Value → List Value) → Machine → Machine → Type 0
Operates f x y = state_of y ≡ (let s = state_of x in record s { at = operates_at f s.at })
