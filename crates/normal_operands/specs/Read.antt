-- What scopes, wanted types and operands are as plain data.
use Rattle.std.specs.Prelude.{[], ◌∷◌, ◌++◌, ◌+◌, length, Option, Some}
use Rattle.std.specs.Global.{Box}
use Rattle.raml_syntax.specs.Tree as t
use Rattle.raml_syntax.specs.Tree.{Type', Prog}
use Rattle.raml_syntax.specs.Read.{program_of}
use Rattle.normal_spec.specs.Norm as n
use Rattle.normal_spec.specs.One as one
use Rattle.normal_spec.specs.Read.{norm_of}
use Rattle.normal_spec.specs.declared.form.NormExpr.{NormExpr}
use Rattle.normal_operands.specs.Types.{lent}
use Rattle.normal_operands.specs.declared.scope.Env.{Env}
use Rattle.normal_operands.specs.declared.scope.Local.{Local}
use Rattle.normal_operands.specs.declared.scope.Scope.{Scope}
use Rattle.normal_operands.specs.declared.scope.Scope.TheOpen as s
use Rattle.normal_operands.specs.declared.scope.Scope.TheFolds.{fold-Scope}

abbrev pub named : Local → one.Named
named x = record { name = x.name.now; number = x.number; type = lent x.ty }

abbrev pub scope_step : s.Scope-F one.Scope → one.Scope
scope_step s.Empty = []
scope_step (s.Bound x outer) = named x ∷ outer.now

abbrev pub scope_in : Scope → one.Scope
scope_in = fold-Scope one.Scope scope_step

abbrev pub program_in : Env → Prog
program_in env = program_of env.names.now.program.now

abbrev pub norm_in : Box NormExpr → n.Norm
norm_in e = norm_of e.value

-- the type that is found for an expression where it stands
abbrev pub found_in : Env → t.Term → Type'
found_in env e = one.found (program_in env) (one.types_in (scope_in env.scope.now)) e

-- the form of an expression where it stands
abbrev pub form_at : Env → Option Type' → t.Term → n.Norm
form_at env want e = one.one (program_in env) want (scope_in env.scope.now) e env.free

-- what stands for an operand there
abbrev pub operand_at : Env → Option Type' → t.Term → one.Operand
operand_at env want e = one.operand_in (program_in env) want (scope_in env.scope.now) e env.free

-- the form of an expression below more variables, the newest first
abbrev pub form_below : Env → one.Scope → Option Type' → t.Term → n.Norm
form_below env locals want e = one.one (program_in env) want (locals ++ scope_in env.scope.now) e env.free

-- the form of the other branch of a match, below the names of its pattern: it is of the type of the first branch
abbrev pub other_below : Env → one.Scope → Option Type' → t.Term → t.Term → n.Norm
other_below env locals want first e =
    one.one (program_in env) (Some (one.type_of (program_in env) want (scope_in env.scope.now) first))
    (locals ++ scope_in env.scope.now) e (env.free + length locals)
