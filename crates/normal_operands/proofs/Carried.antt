-- Nodes that are added to a form.
use Rattle.std.proofs.Common.{◌≡◌, ◌+◌, ℕ, List, [], ◌∷◌, ◌++◌, refl, sym, ap, ◌∙◌}
use Rattle.normal_spec.specs.Norm as n
use Rattle.normal_spec.specs.One.{wrap, wrap_all}
use Rattle.normal_spec.specs.Read.{form_step, expr_step, const_form, op_form, form_of}
use Rattle.normal_operands.specs.Operand.{operand_of, operands_of}
use Rattle.normal_spec.specs.declared.form.Const.{Const}
use Rattle.normal_spec.specs.declared.form.Const.TheVariants as c
use Rattle.normal_spec.specs.declared.form.NormOp.{NormOp}
use Rattle.normal_spec.specs.declared.form.NormOp.TheVariants as op
use Rattle.normal_spec.specs.declared.form.NormForm.{NormForm}
use Rattle.normal_spec.specs.declared.form.NormForm.TheOpen as f
use Rattle.normal_spec.specs.declared.form.NormForm.TheFolds.{fold_out-NormForm}
use Rattle.normal_operands.specs.declared.operand.Operand.{Operand}

layer : (l : f.NormForm-F (ℕ → n.Norm) n.Norm) (m k : ℕ) → n.carries m (form_step l k) ≡ form_step l (m + k)
layer (f.Var x) m k = refl
layer (f.Const v) m k = by v
  where
    by : (v : Const) → n.carries m (const_form v k) ≡ const_form v (m + k)
    by (c.Number i) = refl
    by (c.Truth b) = refl
layer f.Nil m k = refl
layer f.Leaf m k = refl
layer f.Nothing m k = refl
layer (f.Op o) m k = by o
  where
    by : (o : NormOp) → n.carries m (op_form o k) ≡ op_form o (m + k)
    by (op.Arith a x y) = refl
    by (op.Compare a x y) = refl
    by (op.Not x) = refl
layer (f.Pair x y) m k = refl
layer (f.Cons x y) m k = refl
layer (f.Node x y z) m k = refl
layer (f.Just x) m k = refl
layer (f.Call g xs) m k = refl
layer (f.Let x A a b) m k = refl
layer (f.Split x p q a) m k = refl
layer (f.If x a b) m k = refl
layer (f.CaseList x a h t b) m k = refl
layer (f.CaseTree x a h l r b) m k = refl
layer (f.CaseOption x a w b) m k = refl
layer (f.Tick i a) m k = refl
layer (f.Share x p q a) m k = refl
layer (f.Drop x a) m k = refl

pub carries_form : (form : NormForm) (m k : ℕ) → n.carries m (form_of form k) ≡ form_of form (m + k)
carries_form form m k =
    ap (λ g. n.carries m (g k)) (fold_out-NormForm (ℕ → n.Norm) n.Norm form_step expr_step form)
    ∙ layer _ m k
    ∙ sym (ap (λ g. g (m + k)) (fold_out-NormForm (ℕ → n.Norm) n.Norm form_step expr_step form))

pub wrap_all_push : (xs : List Operand) (x : Operand) (e : n.Norm) → wrap_all (operands_of (xs ++ x ∷ [])) e ≡ wrap_all (operands_of xs) (wrap (operand_of x) e)
wrap_all_push [] x e = refl
wrap_all_push (y ∷ xs) x e = ap (wrap (operand_of y)) (wrap_all_push xs x e)
