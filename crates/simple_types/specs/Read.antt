-- What the code's faults, and its answers, are as plain data.
use Rattle.std.specs.Prelude.{◌≡◌, ℕ, List, ◌++◌, Option, Some, None, Result, Ok, Err}
use Rattle.std.specs.Result.{MatchResult}
use Rattle.raml_syntax.specs.Tree as t
use Rattle.raml_syntax.specs.Tree.{Text}
use Rattle.raml_syntax.specs.Read.{ty_of}
use Rattle.simple_types.specs.Fault as f
use Rattle.simple_types.specs.Table.{Table}
use Rattle.simple_types.specs.Numbered.{Ids, Found, walk, walk_each}
use Rattle.simple_types.specs.Scope.{ids_of, sigs_of}
use Rattle.simple_types.specs.declared.types.TypeId.{TypeId}
use Rattle.simple_types.specs.declared.walk.Env.{Env}
use Rattle.simple_types.specs.declared.walk.Local.{Local}
use Rattle.simple_types.specs.declared.fault.Shape.{Shape}
use Rattle.simple_types.specs.declared.fault.Shape.TheVariants.{Is, SomeList, SomeTree, SomeOption, SomePair}
use Rattle.simple_types.specs.declared.fault.TypeFault.{TypeFault}
use Rattle.simple_types.specs.declared.fault.TypeFault.TheVariants.{Unknown, Twice, Wanted, NeedsType, Arity, NoMemory}

abbrev pub kind_of : Shape → f.Kind
kind_of (Is ty) = f.Is (ty_of ty)
kind_of SomeList = f.SomeList
kind_of SomeTree = f.SomeTree
kind_of SomeOption = f.SomeOption
kind_of SomePair = f.SomePair

-- a fault of the program, where the code's is one
abbrev pub fault_of : TypeFault → Option f.Fault
fault_of (Unknown at) = Some (f.Unknown at.0)
fault_of (Twice at) = Some (f.Twice at.0)
fault_of (Wanted at want got) = Some (f.Wanted at.0 (kind_of want) (kind_of got))
fault_of (NeedsType at) = Some (f.NeedsType at.0)
fault_of (Arity at want got) = Some (f.Arity at.0 want got)
fault_of NoMemory = None

-- want of memory aside, the walk ends with the fault
abbrev pub EndsWith : {A : Type 0} → Result A f.Fault → TypeFault → Type 0
EndsWith walk fault = (first : f.Fault) → fault_of fault ≡ Some first → walk ≡ Err first

-- want of memory aside, the walk gives this type and leaves this table, or ends with the fault
abbrev pub Gives : Found → Table → Result TypeId TypeFault → Type 0
Gives walk table answer = MatchResult answer (λ id. walk ≡ Ok (table, id)) (EndsWith walk)

-- the same, where the walk leaves a table alone
abbrev pub Leaves : Result Table f.Fault → Table → Result (Unit {0}) TypeFault → Type 0
Leaves walk table answer = MatchResult answer (λ done. walk ≡ Ok table) (EndsWith walk)

-- the same, where nothing is given but that there is no fault
abbrev pub Passes : Result (Unit {0}) f.Fault → Result (Unit {0}) TypeFault → Type 0
Passes walk answer = MatchResult answer (λ done. walk ≡ Ok tt) (EndsWith walk)

-- the walk over an expression among these functions and variables
abbrev pub walk_in : Env → Table → Option TypeId → t.Term → Found
walk_in env table want e = walk (sigs_of env.functions.now) table want (ids_of env.scope.now) e

-- the same over arguments
abbrev pub each_in : Env → Table → t.Terms → List TypeId → Result Table f.Fault
each_in env table es is = walk_each (sigs_of env.functions.now) table (ids_of env.scope.now) es is

-- the walk over an expression below some more variables
abbrev pub walk_below : Env → Table → Ids → Option TypeId → t.Term → Found
walk_below env table inner want e = walk (sigs_of env.functions.now) table want (inner ++ ids_of env.scope.now) e

-- a variable and its type
abbrev pub local_of : Local → Text × TypeId
local_of local = (local.name.now, local.ty)

-- the fault is that one kind is wanted and another is there, or want of memory
abbrev pub IsWanted : ℕ → f.Kind → f.Kind → TypeFault → Type 0
IsWanted at want got fault = (first : f.Fault) → fault_of fault ≡ Some first → first ≡ f.Wanted at want got
