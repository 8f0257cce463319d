-- Forms of the code, by their shapes.
use Rattle.std.proofs.Common.{◌≡◌, ◌∙◌, sym, ap, ℕ}
use Rattle.std.specs.Global.{Global}
use Rattle.std.specs.declared.boxed.Box.{Box}
use Rattle.normal_spec.specs.Norm as n
use Rattle.normal_spec.specs.Read.{form_step, expr_step, form_of, norm_of}
use Rattle.normal_spec.specs.declared.form.NormExpr.{NormExpr}
use Rattle.normal_spec.specs.declared.form.NormForm.{NormForm}
use Rattle.normal_spec.specs.declared.form.NormForm.TheVariants.{Node, CaseList, CaseTree, CaseOption, rolls-Node, rolls-CaseList, rolls-CaseTree, rolls-CaseOption}
use Rattle.normal_spec.specs.declared.form.NormForm.TheOpen as f
use Rattle.normal_spec.specs.declared.form.NormForm.TheFolds.{fold-roll-NormForm, fold_out-NormExpr}

form_is : (e : NormExpr) (g : NormForm) → e.form ≡ g → norm_of e ≡ form_of g e.nodes
form_is e g h = fold_out-NormExpr (ℕ → n.Norm) n.Norm form_step expr_step e ∙ ap (λ g. form_of g e.nodes) h

pub node_is : (e : NormExpr) (x y z : ℕ) → e.form ≡ Node x y z → norm_of e ≡ n.Node e.nodes x y z
node_is e x y z h = form_is e _ h ∙ ap (λ g. form_of g e.nodes) (sym (rolls-Node x y z)) ∙ ap (λ g. g e.nodes) (fold-roll-NormForm (ℕ → n.Norm) n.Norm form_step expr_step (f.Node x y z))

pub list_is : (e : NormExpr) (x h t : ℕ) (a b : Box NormExpr Global) (c d : NormExpr) → e.form ≡ CaseList x a h t b → c ≡ a.value → d ≡ b.value → norm_of e ≡ n.CaseList e.nodes x (norm_of c) h t (norm_of d)
list_is e x h t a b c d s p q =
    form_is e _ s ∙ ap (λ g. form_of g e.nodes) (sym (rolls-CaseList x a h t b)) ∙ ap (λ g. g e.nodes) (fold-roll-NormForm (ℕ → n.Norm) n.Norm form_step expr_step (f.CaseList x a h t b))
    ∙ (λ i. n.CaseList e.nodes x (norm_of (sym p i)) h t (norm_of (sym q i)))

pub tree_is : (e : NormExpr) (x m l r : ℕ) (a b : Box NormExpr Global) (c d : NormExpr) → e.form ≡ CaseTree x a m l r b → c ≡ a.value → d ≡ b.value → norm_of e ≡ n.CaseTree e.nodes x (norm_of c) m l r (norm_of d)
tree_is e x m l r a b c d s p q =
    form_is e _ s ∙ ap (λ g. form_of g e.nodes) (sym (rolls-CaseTree x a m l r b)) ∙ ap (λ g. g e.nodes) (fold-roll-NormForm (ℕ → n.Norm) n.Norm form_step expr_step (f.CaseTree x a m l r b))
    ∙ (λ i. n.CaseTree e.nodes x (norm_of (sym p i)) m l r (norm_of (sym q i)))

pub option_is : (e : NormExpr) (x w : ℕ) (a b : Box NormExpr Global) (c d : NormExpr) → e.form ≡ CaseOption x a w b → c ≡ a.value → d ≡ b.value → norm_of e ≡ n.CaseOption e.nodes x (norm_of c) w (norm_of d)
option_is e x w a b c d s p q =
    form_is e _ s ∙ ap (λ g. form_of g e.nodes) (sym (rolls-CaseOption x a w b)) ∙ ap (λ g. g e.nodes) (fold-roll-NormForm (ℕ → n.Norm) n.Norm form_step expr_step (f.CaseOption x a w b))
    ∙ (λ i. n.CaseOption e.nodes x (norm_of (sym p i)) w (norm_of (sym q i)))
