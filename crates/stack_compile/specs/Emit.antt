-- What is appended as the code of expressions.
use Rattle.std.specs.Prelude.{◌≡◌, ◌<◌, ℕ, ◌+◌, ◌*◌, ◌^◌, List, [], ◌∷◌, ◌++◌, length, map, Vec, vec_len}
use Rattle.std.specs.Borrow.{Bor}
use Rattle.std.specs.Global.{Global}
use Rattle.raml_syntax.specs.Tree.{Text, Parameter}
use Rattle.raml_syntax.specs.Node.{nodes, AllNodes, NumberFits}
use Rattle.raml_syntax.specs.Read.{parameter_of, term_of, terms_of, bound_of}
use Rattle.raml_syntax.specs.declared.program.Param.{Param}
use Rattle.raml_syntax.specs.declared.tree.Binder.{Binder}
use Rattle.raml_syntax.specs.declared.tree.Expr.{Expr}
use Rattle.stack_compile.specs.Code as c
use Rattle.stack_compile.specs.Code.{code_of, codes_of, fun_of, one, seq, fork, bind_one}
use Rattle.stack_compile.specs.Read.{locals_in, program_in}
use Rattle.stack_compile.specs.declared.emit.Case.{Case}
use Rattle.stack_compile.specs.declared.emit.Case.TheVariants as case
use Rattle.stack_compile.specs.declared.instr.Instr.{Instr}
use Rattle.stack_compile.specs.declared.instr.Instr.TheVariants.{Node, Call, Unbind, CaseList, CaseTree, CaseOption}
use Rattle.stack_compile.specs.declared.scope.Env.{Env}

-- the code of an expression among the functions and locals at hand
abbrev pub here : Env → Expr → c.Code
here env e = code_of (program_in env) (locals_in env) (term_of e)

abbrev pub binders : List (Bor Binder) → List Binder
binders xs = map (λ (x : Bor Binder). x.now) xs

-- the names of the locals once more are bound
abbrev pub bind_all : List Text → List Binder → List Text
bind_all locals [] = locals
bind_all locals (x ∷ xs) = bind_all (bind_one locals (bound_of x)) xs

-- the names of parameters
abbrev pub parameters_in : List Param → List Text
parameters_in params = map (λ (p : Parameter). p.name) (map parameter_of params)

-- the code of an expression below parameters, behind the locals
abbrev pub below_all : Env → List Param → Expr → c.Code
below_all env params e = code_of (program_in env) (locals_in env ++ parameters_in params) (term_of e)

-- the code of an expression below more locals
abbrev pub below : Env → List Binder → Expr → c.Code
below env xs e = code_of (program_in env) (bind_all (locals_in env) xs) (term_of e)

-- and their end behind it
abbrev pub bound_in : Env → List Binder → Expr → c.Code
bound_in env xs e = seq (below env xs e) (one (Unbind (length xs)))

-- of what is bound, the instruction that binds it, and what stands below its names
abbrev pub let_in : Env → Instr → List Binder → Expr → Expr → c.Code
let_in env bind xs bound rest = seq (here env bound) (seq (one bind) (bound_in env xs rest))

-- the instruction that leaves for a place where there is nothing to take apart
abbrev pub leave_of : Case → ℕ → Instr
leave_of case.List to = CaseList to
leave_of case.Tree to = CaseTree to
leave_of case.Option to = CaseOption to

-- of an element, two trees and the instruction that makes a node of them
abbrev pub node_in : Env → Expr → Expr → Expr → c.Code
node_in env a b d = seq (here env a) (seq (here env b) (seq (here env d) (one Node)))

abbrev pub arguments_in : Env → List Expr → c.Code
arguments_in env args = codes_of (program_in env) (locals_in env) (terms_of args)

abbrev pub call_in : Env → Text → List Expr → c.Code
call_in env f args = seq (arguments_in env args) (one (Call (fun_of f (program_in env))))

-- of a subject, what stands below the names of its parts, and what stands where it is empty
abbrev pub match_in : Env → Case → List Binder → Expr → Expr → Expr → c.Code
match_in env case xs subject part empty = fork (here env subject) (leave_of case) (bound_in env xs part) (here env empty)

abbrev pub size : Expr → ℕ
size e = nodes (term_of e)

abbrev pub NumbersFit : Expr → Type 0
NumbersFit e = AllNodes NumberFits (term_of e)

-- The depth is the number of locals. So many more locals and so many nodes, behind so many instructions, have numbers
-- and places of 32 bits.
abbrev pub HasRoom : Env → ℕ → ℕ → ℕ → Type 0
HasRoom env more at n = (env.depth ≡ length (locals_in env)) × (env.depth + more + 3 * n < 2 ^ 32) × (at + 4 * n < 2 ^ 32)

-- the code was appended, at its place
abbrev pub Appended : c.Code → Vec Instr Global → Vec Instr Global → Type 0
Appended code old new = new.items ≡ old.items ++ code (vec_len old)
