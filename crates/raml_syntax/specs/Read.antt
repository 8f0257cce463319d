-- What the code's types, trees and values are as plain data.
use Rattle.std.specs.Prelude.{ℕ, List, [], ◌∷◌, map, Option}
use Rattle.std.specs.Option.{option_map}
use Rattle.raml_syntax.specs.Tree as t
use Rattle.raml_syntax.specs.Value as v
use Rattle.raml_syntax.specs.declared.ty.Ty.{Ty}
use Rattle.raml_syntax.specs.declared.ty.Ty.TheOpen as y
use Rattle.raml_syntax.specs.declared.ty.Ty.TheFolds.{fold-Ty}
use Rattle.raml_syntax.specs.declared.tree.Binder.{Binder}
use Rattle.raml_syntax.specs.declared.tree.Expr.{Expr}
use Rattle.raml_syntax.specs.declared.tree.Form.{Form}
use Rattle.raml_syntax.specs.declared.tree.Form.TheOpen as f
use Rattle.raml_syntax.specs.declared.tree.Form.TheFolds.{fold-Form, fold-Expr}
use Rattle.raml_syntax.specs.declared.program.Param.{Param}
use Rattle.raml_syntax.specs.declared.program.Fun.{Fun}
use Rattle.raml_syntax.specs.declared.program.FunId.{FunId}
use Rattle.raml_syntax.specs.declared.program.Program.{Program}
use Rattle.raml_syntax.specs.declared.value.Value.{Value}
use Rattle.raml_syntax.specs.declared.value.Value.TheOpen as o
use Rattle.raml_syntax.specs.declared.value.Value.TheFolds.{fold-Value}

abbrev pub ty_step : y.Ty-F t.Type' → t.Type'
ty_step y.Int = t.Integer
ty_step y.Bool = t.Boolean
ty_step (y.Pair a b) = t.PairOf a.value b.value
ty_step (y.List a) = t.ListOf a.value
ty_step (y.Tree a) = t.TreeOf a.value
ty_step (y.Opt a) = t.OptionOf a.value

abbrev pub ty_of : Ty → t.Type'
ty_of = fold-Ty t.Type' ty_step

abbrev pub bound_of : Binder → t.Bound
bound_of b = record { at = b.at.0; name = b.name }

abbrev pub terms : List t.Term → t.Terms
terms [] = t.None
terms (e ∷ es) = t.More e (terms es)

-- a form is a term once it has a place
abbrev pub form_step : f.Form-F (ℕ → t.Term) t.Term → ℕ → t.Term
form_step (f.Number n) p = t.Number p n
form_step (f.Truth b) p = t.Truth p b
form_step f.Nil p = t.Nil p
form_step f.Leaf p = t.Leaf p
form_step f.Nothing p = t.Nothing p
form_step (f.Var x) p = t.Var p x
form_step (f.Arith o a b) p = t.Arith p o a.value b.value
form_step (f.Compare o a b) p = t.Compare p o a.value b.value
form_step (f.Not a) p = t.Not p a.value
form_step (f.Pair a b) p = t.Pair p a.value b.value
form_step (f.Cons a b) p = t.Cons p a.value b.value
form_step (f.Node a b c) p = t.Node p a.value b.value c.value
form_step (f.Just a) p = t.Just p a.value
form_step (f.Call g es) p = t.Call p g (terms es.items)
form_step (f.Let x a b) p = t.Let p (bound_of x) a.value b.value
form_step (f.LetPair x y a b) p = t.LetPair p (bound_of x) (bound_of y) a.value b.value
form_step (f.If a b c) p = t.If p a.value b.value c.value
form_step (f.MatchList a b x y c) p = t.MatchList p a.value b.value (bound_of x) (bound_of y) c.value
form_step (f.MatchTree a b x y z c) p = t.MatchTree p a.value b.value (bound_of x) (bound_of y) (bound_of z) c.value
form_step (f.MatchOption a b x c) p = t.MatchOption p a.value b.value (bound_of x) c.value
form_step (f.Tick n a) p = t.Tick p n a.value
form_step (f.Typed a A) p = t.Typed p a.value (ty_of A)

abbrev pub expr_step : f.Expr-F (ℕ → t.Term) t.Term → t.Term
expr_step e = e.form e.at.0

abbrev pub form_of : Form → ℕ → t.Term
form_of = fold-Form (ℕ → t.Term) t.Term form_step expr_step

abbrev pub term_of : Expr → t.Term
term_of = fold-Expr (ℕ → t.Term) t.Term form_step expr_step

abbrev pub terms_of : List Expr → t.Terms
terms_of es = terms (map term_of es)

abbrev pub parameter_of : Param → t.Parameter
parameter_of p = record { at = p.at.0; name = p.name; type = ty_of p.ty }

abbrev pub function_of : Fun → t.Function
function_of g =
    record { at = g.at.0; name = g.name; params = map parameter_of g.params.items; result = ty_of g.result; body = term_of g.body }

abbrev pub program_of : Program → t.Prog
program_of P = map function_of P.funs.items

abbrev pub place_in : Option FunId → Option ℕ
place_in = option_map (λ (f : FunId). f.0)

abbrev pub list_value : List v.Value → v.Value
list_value [] = v.Empty
list_value (x ∷ xs) = v.Cons x (list_value xs)

abbrev pub value_step : o.Value-F v.Value → v.Value
value_step (o.Int n) = v.Number n
value_step (o.Bool b) = v.Truth b
value_step (o.Pair a b) = v.Both a.value b.value
value_step (o.List xs) = list_value xs.items
value_step o.Leaf = v.Empty
value_step (o.Node a b c) = v.Node a.value b.value c.value
value_step o.Nothing = v.Empty
value_step (o.Just a) = v.Just a.value

abbrev pub value_of : Value → v.Value
value_of = fold-Value v.Value value_step
