-- The stack machine. It knows places, a stack, locals and frames, and nothing of expressions.
--
-- Its steps are total: where an operand is missing or of another form a default stands in its place. The code of a typed program meets
-- none (`Ready`).
use Rattle.std.specs.Prelude.{ℕ, zero, suc, List, [], ◌∷◌, ◌++◌, length, take, ◌+◌, ◌-◌, Option, Some, None, pos, slice_get}
use Rattle.raml_syntax.specs.declared.tree.ArithOp.{ArithOp}
use Rattle.raml_syntax.specs.declared.tree.ArithOp.TheVariants as op
use Rattle.raml_syntax.specs.Value as v
use Rattle.raml_syntax.specs.Value.{Value, Number, Truth, Both}
use Rattle.raml_syntax.specs.Eval.{arith, compare, negation, branch, pair_case, list_case, tree_case, option_case}
use Rattle.stack_compile.specs.Code.{Body}
use Rattle.stack_compile.specs.declared.instr.Instr.{Instr}
use Rattle.stack_compile.specs.declared.instr.Instr.TheVariants as instr
use Rattle.stack_compile.specs.declared.instr.Instr.TheVariants.{Int, Bool, Empty, Load, Bind, Unbind, Add, Sub, Mul, Div, Mod, Compare}
use Rattle.stack_compile.specs.declared.instr.Instr.TheVariants.{Not, Pair, Cons, Node, Unpair, CaseList, CaseTree, CaseOption, Branch}
use Rattle.stack_compile.specs.declared.instr.Instr.TheVariants.{Jump, Call, Return, Tick}

-- where a call returns to, and the locals there
pub record Frame : Type 0 where
  pub fun : ℕ
  pub place : ℕ
  pub locals : List Value

-- Where a machine is, without its meters: at a place of a function, or it has halted with a value. The stack has its top first, the
-- locals stand oldest first, and the frames newest first.
pub data Config : Type 0 where
  Going : (fun place : ℕ) (stack locals : List Value) (frames : List Frame) → Config
  Halted : Value → Config

-- what one instruction does: where the machine is next, and the ticks, cells and instructions that it adds
pub record Move : Type 0 where
  pub next : Config
  pub ticks : ℕ
  pub cells : ℕ
  pub made : ℕ

abbrev pub goes : Config → Move
goes c = record { next = c; ticks = 0; cells = 0; made = 1 }

abbrev pub goes_with_ticks : ℕ → Config → Move
goes_with_ticks n c = record { next = c; ticks = n; cells = 0; made = 1 }

abbrev pub goes_with_cell : Config → Move
goes_with_cell c = record { next = c; ticks = 0; cells = 1; made = 1 }

-- the top of a stack, by default 0, and what is under it
abbrev pub top : List Value → Value
top [] = Number (pos 0)
top (v ∷ vs) = v

abbrev pub under : List Value → List Value
under [] = []
under (v ∷ vs) = vs

-- a local, by default 0
abbrev pub local : List Value → ℕ → Value
local [] i = Number (pos 0)
local (v ∷ vs) zero = v
local (v ∷ vs) (suc i) = local vs i

-- so many values off the stack, the last one from the top, before these
abbrev pub popped : ℕ → List Value → List Value → List Value
popped zero stack vs = vs
popped (suc n) stack vs = popped n (under stack) (top stack ∷ vs)

-- what is left of the stack without them
abbrev pub left : ℕ → List Value → List Value
left zero stack = stack
left (suc n) stack = left n (under stack)

abbrev pub unbind : ℕ → List Value → List Value
unbind k locals = take (length locals - k) locals

-- the called function is entered by its number of parameters; by default the machine stays
abbrev pub entered : Option Body → Config → (ℕ → Config) → Config
entered None stay enter = stay
entered (Some body) stay enter = enter body.arity

-- back to the newest frame; without one the machine halts with the top
abbrev pub leave : List Frame → List Value → Config
leave [] stack = Halted (top stack)
leave (frame ∷ frames) stack = Going frame.fun frame.place stack frame.locals frames

-- the left operand is under the right one
abbrev pub operated : ArithOp → List Value → List Value
operated o stack = arith o (top (under stack)) (top stack) ∷ under (under stack)

-- what the instruction does at a place of a function
abbrev pub act : List Body → Option Instr → ℕ → ℕ → List Value → List Value → List Frame → Move
act code None f p st ls fs = goes (Going f p st ls fs)
act code (Some (Int n)) f p st ls fs = goes (Going f (p + 1) (Number n ∷ st) ls fs)
act code (Some (Bool b)) f p st ls fs = goes (Going f (p + 1) (Truth b ∷ st) ls fs)
act code (Some Empty) f p st ls fs = goes (Going f (p + 1) (v.Empty ∷ st) ls fs)
act code (Some (Load i)) f p st ls fs = goes (Going f (p + 1) (local ls i ∷ st) ls fs)
act code (Some Bind) f p st ls fs = goes (Going f (p + 1) (under st) (ls ++ top st ∷ []) fs)
act code (Some (Unbind k)) f p st ls fs = goes (Going f (p + 1) st (unbind k ls) fs)
act code (Some Add) f p st ls fs = goes (Going f (p + 1) (operated op.Add st) ls fs)
act code (Some Sub) f p st ls fs = goes (Going f (p + 1) (operated op.Sub st) ls fs)
act code (Some Mul) f p st ls fs = goes (Going f (p + 1) (operated op.Mul st) ls fs)
act code (Some Div) f p st ls fs = goes (Going f (p + 1) (operated op.Div st) ls fs)
act code (Some Mod) f p st ls fs = goes (Going f (p + 1) (operated op.Mod st) ls fs)
act code (Some (Compare o)) f p st ls fs = goes (Going f (p + 1) (compare o (top (under st)) (top st) ∷ under (under st)) ls fs)
act code (Some Not) f p st ls fs = goes (Going f (p + 1) (negation (top st) ∷ under st) ls fs)
act code (Some Pair) f p st ls fs = goes_with_cell (Going f (p + 1) (Both (top (under st)) (top st) ∷ under (under st)) ls fs)
act code (Some Cons) f p st ls fs = goes_with_cell (Going f (p + 1) (v.Cons (top (under st)) (top st) ∷ under (under st)) ls fs)
act code (Some Node) f p st ls fs =
    goes_with_cell (Going f (p + 1) (v.Node (top (under (under st))) (top (under st)) (top st) ∷ under (under (under st))) ls fs)
act code (Some instr.Some) f p st ls fs = goes_with_cell (Going f (p + 1) (v.Just (top st) ∷ under st) ls fs)
act code (Some Unpair) f p st ls fs =
    goes (pair_case (top st) (Going f (p + 1) (under st) ls fs) (λ v w. Going f (p + 1) (under st) ((ls ++ v ∷ []) ++ w ∷ []) fs))
act code (Some (CaseList to)) f p st ls fs =
    goes (list_case (top st) (Going f to (under st) ls fs) (λ h r. Going f (p + 1) (under st) ((ls ++ h ∷ []) ++ r ∷ []) fs))
act code (Some (CaseTree to)) f p st ls fs =
    goes (tree_case (top st) (Going f to (under st) ls fs) (λ e l r. Going f (p + 1) (under st) (((ls ++ e ∷ []) ++ l ∷ []) ++ r ∷ []) fs))
act code (Some (CaseOption to)) f p st ls fs =
    goes (option_case (top st) (Going f to (under st) ls fs) (λ w. Going f (p + 1) (under st) (ls ++ w ∷ []) fs))
act code (Some (Branch to)) f p st ls fs = goes (branch (top st) (Going f (p + 1) (under st) ls fs) (Going f to (under st) ls fs))
act code (Some (Jump to)) f p st ls fs = goes (Going f to st ls fs)
act code (Some (Call g)) f p st ls fs =
    goes (entered (slice_get code g.0) (Going f p st ls fs)
    (λ n. Going g.0 0 (left n st) (popped n st []) (record { fun = f; place = p + 1; locals = ls } ∷ fs)))
act code (Some Return) f p st ls fs = goes (leave fs st)
act code (Some (Tick n)) f p st ls fs = goes_with_ticks n (Going f (p + 1) st ls fs)

-- the instruction at a place of a function
abbrev pub fetch_in : Option Body → ℕ → Option Instr
fetch_in None p = None
fetch_in (Some body) p = slice_get body.code p

abbrev pub fetch : List Body → ℕ → ℕ → Option Instr
fetch code f p = fetch_in (slice_get code f) p

-- a machine that has halted makes no instruction
abbrev pub move : List Body → Config → Move
move code (Going f p st ls fs) = act code (fetch code f p) f p st ls fs
move code (Halted v) = record { next = Halted v; ticks = 0; cells = 0; made = 0 }

-- where a machine is, and its meters: the ticks, the cells taken and the instructions made so far
pub record State : Type 0 where
  pub at : Config
  pub ticks : ℕ
  pub cells : ℕ
  pub made : ℕ

abbrev pub moved : State → Move → State
moved s m = record { at = m.next; ticks = s.ticks + m.ticks; cells = s.cells + m.cells; made = s.made + m.made }

abbrev pub step : List Body → State → State
step code s = moved s (move code s.at)

-- the state after so many instructions, or the halted state where it halts sooner
abbrev pub after : List Body → ℕ → State → State
after code zero s = s
after code (suc m) s = after code m (step code s)

-- a function begins at its first instruction, with its arguments as locals
abbrev pub start : ℕ → List Value → State
start f args = record { at = Going f 0 [] args []; ticks = 0; cells = 0; made = 0 }
