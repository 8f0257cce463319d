-- What the code's scopes and calls are as plain data.
use Rattle.std.specs.Prelude.{ℕ, List, [], ◌∷◌, map, Option}
use Rattle.std.specs.Borrow.{Bor}
use Rattle.std.specs.Option.{option_map}
use Rattle.raml_syntax.specs.Tree as t
use Rattle.raml_syntax.specs.Tree.{Type', Bound, Parameter, Function, Prog}
use Rattle.raml_syntax.specs.Read.{bound_of, parameter_of, function_of, program_of}
use Rattle.raml_syntax.specs.declared.program.Param.{Param}
use Rattle.raml_syntax.specs.declared.program.Fun.{Fun}
use Rattle.raml_syntax.specs.declared.tree.Binder.{Binder}
use Rattle.call_groups.specs.Read.{ids_of}
use Rattle.explain_rounds.specs.Classes.{Class, Variables, bind, bind_parameters}
use Rattle.explain_rounds.specs.Calls.{Call, call_of, calls_in, calls_in_all}
use Rattle.explain_rounds.specs.declared.scope.Scope.{Scope}
use Rattle.explain_rounds.specs.declared.scope.Scope.TheOpen as s
use Rattle.explain_rounds.specs.declared.scope.Scope.TheFolds.{fold-Scope}
use Rattle.explain_rounds.specs.declared.calls.GroupCall.{GroupCall}
use Rattle.explain_rounds.specs.declared.calls.Env.{Env}

-- the variables of a scope, the newest first
abbrev pub scope_step : s.Scope-F Variables → Variables
scope_step s.Empty = []
scope_step (s.Bound at name class outer) = (record { at = at.0; name = name.now }, class) ∷ outer.now

abbrev pub variables_in : Scope → Variables
variables_in = fold-Scope Variables scope_step

abbrev pub binders : List (Bor Binder) → List Bound
binders xs = map (λ (x : Bor Binder). bound_of x.now) xs

abbrev pub types_in : List Param → List Type'
types_in params = map (λ (p : Parameter). p.type) (map parameter_of params)

abbrev pub function_in : Option (Bor Fun) → Option Function
function_in = option_map (λ (g : Bor Fun). function_of g.now)

abbrev pub plain_call : GroupCall → Call
plain_call c = record { at = c.at.0; callee = c.callee.0; kind = c.kind }

abbrev pub calls_of : List GroupCall → List Call
calls_of cs = map plain_call cs

-- the program, the variables and the group at a place
abbrev pub program_in : Env → Prog
program_in env = program_of env.functions.now.program.now

abbrev pub variables_at : Env → Variables
variables_at env = variables_in env.scope.now

abbrev pub call_by : Env → ℕ → t.Terms → Option ℕ → List Call
call_by env = call_of (program_in env) (ids_of env.group.now) (variables_at env)

-- the calls in expressions there
abbrev pub calls_by : Env → t.Term → List Call
calls_by env = calls_in (program_in env) (ids_of env.group.now) (variables_at env)

abbrev pub all_calls_by : Env → t.Terms → List Call
all_calls_by env = calls_in_all (program_in env) (ids_of env.group.now) (variables_at env)

-- below more names of one class, and below parameters
abbrev pub calls_below : Env → Class → List Bound → t.Term → List Call
calls_below env c xs = calls_in (program_in env) (ids_of env.group.now) (bind c xs (variables_at env))

abbrev pub body_calls_by : Env → List Parameter → t.Term → List Call
body_calls_by env params = calls_in (program_in env) (ids_of env.group.now) (bind_parameters params (variables_at env))
