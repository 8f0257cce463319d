-- What the machine's fields stand for.
use Rattle.std.specs.Prelude.{◌≡◌, ◌≤◌, ◌<◌, ℕ, List, [], ◌∷◌, ◌++◌, length, map, take, drop, ◌+◌, ◌^◌, Option, Some, None}
use Rattle.raml_syntax.specs.Value.{Value}
use Rattle.value_text.specs.Heap.{Heap, IsBelow, NameEarlier}
use Rattle.value_text.specs.Held.{Held, value_of, held}
use Rattle.value_text.specs.declared.word.Word.{Word}
use Rattle.value_text.specs.declared.word.Cell.{Cell}
use Rattle.stack_compile.specs.Machine as m
use Rattle.stack_compile.specs.Machine.{Config, Going, Halted, State}
use Rattle.metered_vm.specs.declared.machine.Frame.{Frame}
use Rattle.metered_vm.specs.declared.machine.Machine.{Machine}

abbrev pub values_of : List Held → List Word → List Value
values_of hs = map (value_of hs)

-- words of a stack, the newest last, over these values, which have the top first
abbrev pub stack_of : List Held → List Word → List Value → List Value
stack_of hs [] vs = vs
stack_of hs (w ∷ ws) vs = stack_of hs ws (value_of hs w ∷ vs)

-- how many locals the frames have
abbrev pub locals_below : List Frame → ℕ
locals_below [] = 0
locals_below (g ∷ gs) = g.locals + locals_below gs

-- the frames before these, which have the newest first; each has its part of the locals
abbrev pub frames_of : List Value → List Frame → List m.Frame → List m.Frame
frames_of vs [] fs = fs
frames_of vs (g ∷ gs) fs = frames_of (drop g.locals vs) gs (record { fun = g.fun.0; place = g.place; locals = take g.locals vs } ∷ fs)

-- the parts of a machine, where these are the cells
abbrev pub stack_in : Machine → List Value
stack_in x = stack_of (held x.heap.cells) x.stack.items []

abbrev pub locals_in : Machine → List Value
locals_in x = drop x.base (values_of (held x.heap.cells) x.locals.items)

abbrev pub frames_in : Machine → List m.Frame
frames_in x = frames_of (values_of (held x.heap.cells) x.locals.items) x.frames.items []

abbrev pub state : Config → ℕ → ℕ → ℕ → State
state c ticks cells made = record { at = c; ticks = ticks; cells = cells; made = made }

-- the state of a machine that goes on
abbrev pub state_of : Machine → State
state_of x = state (Going x.fun.0 x.place (stack_in x) (locals_in x) (frames_in x)) x.ticks x.cells x.made

-- its state where it has halted with this word
abbrev pub halted_of : Word → Machine → State
halted_of w x = state (Halted (value_of (held x.heap.cells) w)) x.ticks x.cells x.made

abbrev pub AllBelow : ℕ → List Word → Type 0
AllBelow n [] = Unit {0}
AllBelow n (w ∷ ws) = IsBelow n w × AllBelow n ws

-- Words name cells that are there, frames have the locals below those of the newest call, and there is room for each
-- cell that may be taken.
pub record Sound (heap : Heap) (ws ls : List Word) (begin : ℕ) (gs : List Frame) (cells limit : ℕ) : Type 0 where
  pub earlier : NameEarlier heap.cells
  pub stack : AllBelow (length heap.cells) ws
  pub locals : AllBelow (length heap.cells) ls
  pub base : locals_below gs ≡ begin
  pub within : begin ≤ length ls
  pub taken : cells ≤ limit
  pub spare : limit ≤ cells + heap.spare

abbrev pub IsSound : Machine → Type 0
IsSound x = Sound x.heap x.stack.items x.locals.items x.base x.frames.items x.cells x.limit

-- numbers have room for one more instruction
abbrev pub HasRoom : Machine → Type 0
HasRoom x = (x.place + 1 < 2 ^ 64) × (x.ticks + 2 ^ 32 < 2 ^ 64)

-- the first cells are a front of the others
abbrev pub IsFront : List Cell → List Cell → Type 0
IsFront cells all = (more : List Cell) × (all ≡ cells ++ more)

-- what an instruction does not do: count itself, take away cells, or add more than it may
abbrev pub Grew : Machine → Machine → Type 0
Grew x y = (y.made ≡ x.made) × (y.ticks ≤ x.ticks + 2 ^ 32) × (y.limit ≡ x.limit) × IsFront x.heap.cells y.heap.cells

-- and it stays in its function
abbrev pub Advances : Machine → Machine → Type 0
Advances x y = Grew x y × (y.fun ≡ x.fun)

-- the state once one more instruction is counted
abbrev pub counted : State → State
counted s = record s { made = s.made + 1 }

-- nothing is changed that is told
abbrev pub Stays : Machine → Machine → Type 0
Stays x y = (state_of y ≡ state_of x) × (y.heap ≡ x.heap) × (y.limit ≡ x.limit)

-- the state of a machine, which has halted where there is a word
abbrev pub state_with : Option Word → Machine → State
state_with None x = state_of x
state_with (Some w) x = halted_of w x
