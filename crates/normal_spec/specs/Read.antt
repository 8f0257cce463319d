-- What the code's normal forms are as plain data.
use Rattle.std.specs.Prelude.{ℕ, List, [], ◌∷◌, map}
use Rattle.raml_syntax.specs.Tree.{Type'}
use Rattle.raml_syntax.specs.Read.{ty_of}
use Rattle.raml_syntax.specs.declared.ty.Ty.{Ty}
use Rattle.normal_spec.specs.Norm as n
use Rattle.normal_spec.specs.declared.form.Const.{Const}
use Rattle.normal_spec.specs.declared.form.Const.TheVariants as c
use Rattle.normal_spec.specs.declared.form.NormOp.{NormOp}
use Rattle.normal_spec.specs.declared.form.NormOp.TheVariants as op
use Rattle.normal_spec.specs.declared.form.NormExpr.{NormExpr}
use Rattle.normal_spec.specs.declared.form.NormForm.{NormForm}
use Rattle.normal_spec.specs.declared.form.NormForm.TheOpen as f
use Rattle.normal_spec.specs.declared.form.NormForm.TheFolds.{fold-NormForm, fold-NormExpr}
use Rattle.normal_spec.specs.declared.form.NormFun.{NormFun}

abbrev pub const_form : Const → ℕ → n.Norm
const_form (c.Number i) k = n.Number k i
const_form (c.Truth b) k = n.Truth k b

abbrev pub op_form : NormOp → ℕ → n.Norm
op_form (op.Arith o x y) k = n.Arith k o x y
op_form (op.Compare o x y) k = n.Compare k o x y
op_form (op.Not x) k = n.Not k x

-- a form is one once it has its nodes
abbrev pub form_step : f.NormForm-F (ℕ → n.Norm) n.Norm → ℕ → n.Norm
form_step (f.Var x) k = n.Var k x
form_step (f.Const v) k = const_form v k
form_step f.Nil k = n.Nil k
form_step f.Leaf k = n.Leaf k
form_step f.Nothing k = n.Nothing k
form_step (f.Op o) k = op_form o k
form_step (f.Pair x y) k = n.Pair k x y
form_step (f.Cons x y) k = n.Cons k x y
form_step (f.Node x y z) k = n.Node k x y z
form_step (f.Just x) k = n.Just k x
form_step (f.Call g xs) k = n.Call k g.0 xs.items
form_step (f.Let x A a b) k = n.Let k x (ty_of A) a.value b.value
form_step (f.Split x p q a) k = n.Split k x p q a.value
form_step (f.If x a b) k = n.If k x a.value b.value
form_step (f.CaseList x a h t b) k = n.CaseList k x a.value h t b.value
form_step (f.CaseTree x a h l r b) k = n.CaseTree k x a.value h l r b.value
form_step (f.CaseOption x a w b) k = n.CaseOption k x a.value w b.value
form_step (f.Tick i a) k = n.Tick k i a.value
form_step (f.Share x p q a) k = n.Share k x p q a.value
form_step (f.Drop x a) k = n.Drop k x a.value

abbrev pub expr_step : f.NormExpr-F (ℕ → n.Norm) n.Norm → n.Norm
expr_step e = e.form e.nodes

abbrev pub form_of : NormForm → ℕ → n.Norm
form_of = fold-NormForm (ℕ → n.Norm) n.Norm form_step expr_step

abbrev pub norm_of : NormExpr → n.Norm
norm_of = fold-NormExpr (ℕ → n.Norm) n.Norm form_step expr_step

abbrev pub parameters_of : List (ℕ × Ty) → List (ℕ × Type')
parameters_of = map (λ (p : ℕ × Ty). (p.0, ty_of p.1))

-- a function and the type of its results
abbrev pub fun_of : Ty → NormFun → n.NormFun
fun_of result g = record { params = parameters_of g.params.items; result = ty_of result; body = norm_of g.body }

abbrev pub funs_of : List Ty → List NormFun → n.NormProg
funs_of (A ∷ As) (g ∷ gs) = fun_of A g ∷ funs_of As gs
funs_of _ _ = []
