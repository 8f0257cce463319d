-- States in which the next instruction finds what it takes, so that no step meets a default.
use Rattle.std.specs.Prelude.{◌≤◌, ◌<◌, ℕ, List, [], ◌∷◌, length, Option, Some, None, slice_get}
use Rattle.raml_syntax.specs.Value as v
use Rattle.raml_syntax.specs.Value.{Value, Both}
use Rattle.raml_syntax.specs.Default.{IsNumber, IsTruth}
use Rattle.stack_compile.specs.Code.{Body}
use Rattle.stack_compile.specs.Machine.{Config, Going, Halted, fetch}
use Rattle.stack_compile.specs.declared.instr.Instr.{Instr}
use Rattle.stack_compile.specs.declared.instr.Instr.TheVariants as instr
use Rattle.stack_compile.specs.declared.instr.Instr.TheVariants.{Load, Bind, Unbind, Add, Sub, Mul, Div, Mod, Compare, Not, Pair, Cons}
use Rattle.stack_compile.specs.declared.instr.Instr.TheVariants.{Node, Unpair, CaseList, CaseTree, CaseOption, Branch, Call, Return}

abbrev pub IsPair : Value → Type 0
IsPair (Both v w) = Unit {0}
IsPair _ = ⊥

abbrev pub IsList : Value → Type 0
IsList v.Empty = Unit {0}
IsList (v.Cons h r) = Unit {0}
IsList _ = ⊥

abbrev pub IsTree : Value → Type 0
IsTree v.Empty = Unit {0}
IsTree (v.Node e l r) = Unit {0}
IsTree _ = ⊥

abbrev pub IsOption : Value → Type 0
IsOption v.Empty = Unit {0}
IsOption (v.Just w) = Unit {0}
IsOption _ = ⊥

abbrev pub AtLeast : ℕ → List Value → Type 0
AtLeast n vs = n ≤ length vs

abbrev pub TopIs : (Value → Type 0) → List Value → Type 0
TopIs Q [] = ⊥
TopIs Q (v ∷ vs) = Q v

abbrev pub TwoNumbers : List Value → Type 0
TwoNumbers (w ∷ v ∷ vs) = IsNumber v × IsNumber w
TwoNumbers _ = ⊥

-- the function is there, and the stack has its arguments
abbrev pub HasArguments : Option Body → List Value → Type 0
HasArguments None st = ⊥
HasArguments (Some body) st = body.arity ≤ length st

-- what an instruction takes from the stack and the locals
abbrev pub Finds : List Body → Option Instr → List Value → List Value → Type 0
Finds code None st ls = ⊥
Finds code (Some (Load i)) st ls = i < length ls
Finds code (Some Bind) st ls = AtLeast 1 st
Finds code (Some (Unbind k)) st ls = k ≤ length ls
Finds code (Some Add) st ls = TwoNumbers st
Finds code (Some Sub) st ls = TwoNumbers st
Finds code (Some Mul) st ls = TwoNumbers st
Finds code (Some Div) st ls = TwoNumbers st
Finds code (Some Mod) st ls = TwoNumbers st
Finds code (Some (Compare o)) st ls = TwoNumbers st
Finds code (Some Not) st ls = TopIs IsTruth st
Finds code (Some Pair) st ls = AtLeast 2 st
Finds code (Some Cons) st ls = AtLeast 2 st
Finds code (Some Node) st ls = AtLeast 3 st
Finds code (Some instr.Some) st ls = AtLeast 1 st
Finds code (Some Unpair) st ls = TopIs IsPair st
Finds code (Some (CaseList to)) st ls = TopIs IsList st
Finds code (Some (CaseTree to)) st ls = TopIs IsTree st
Finds code (Some (CaseOption to)) st ls = TopIs IsOption st
Finds code (Some (Branch to)) st ls = TopIs IsTruth st
Finds code (Some (Call g)) st ls = HasArguments (slice_get code g.0) st
Finds code (Some Return) st ls = AtLeast 1 st
Finds code (Some _) st ls = Unit {0}

abbrev pub Ready : List Body → Config → Type 0
Ready code (Going f p st ls fs) = Finds code (fetch code f p) st ls
Ready code (Halted v) = Unit {0}
