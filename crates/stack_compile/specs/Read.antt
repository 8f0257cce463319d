-- What the code's bodies and scopes are as plain data.
use Rattle.std.specs.Prelude.{ℕ, List, [], ◌∷◌, ◌++◌, Option, Some, None, slice_get}
use Rattle.raml_syntax.specs.Tree.{Text, Prog}
use Rattle.raml_syntax.specs.Read.{program_of}
use Rattle.stack_compile.specs.Code as c
use Rattle.stack_compile.specs.declared.instr.Instr.{Instr}
use Rattle.stack_compile.specs.declared.code.Body.{Body}
use Rattle.stack_compile.specs.declared.scope.Scope.{Scope}
use Rattle.stack_compile.specs.declared.scope.Scope.TheOpen as s
use Rattle.stack_compile.specs.declared.scope.Scope.TheFolds.{fold-Scope}
use Rattle.stack_compile.specs.declared.scope.Env.{Env}

abbrev pub body_in : Body → c.Body
body_in b = record { arity = b.arity; code = b.code.items }

-- the instructions of the function at a place; none where no function stands there
abbrev pub code_in : Option c.Body → List Instr
code_in None = []
code_in (Some b) = b.code

abbrev pub code_at : List c.Body → ℕ → List Instr
code_at bodies f = code_in (slice_get bodies f)

-- the names of the locals, oldest first
abbrev pub scope_step : s.Scope-F (List Text) → List Text
scope_step s.Empty = []
scope_step (s.Bound name outer) = outer.now ++ name.now ∷ []

abbrev pub names_in : Scope → List Text
names_in = fold-Scope (List Text) scope_step

abbrev pub locals_in : Env → List Text
locals_in env = names_in env.scope.now

abbrev pub program_in : Env → Prog
program_in env = program_of env.functions.now.program.now
