-- What types are as plain data.
use Rattle.std.proofs.Common.{◌≡◌, sym, ap, ◌∙◌}
use Rattle.std.specs.Global.{Box}
use Rattle.raml_syntax.specs.Tree.{Type', Integer, Boolean, PairOf, ListOf, TreeOf, OptionOf}
use Rattle.raml_syntax.specs.Read.{ty_of, ty_step}
use Rattle.raml_syntax.specs.declared.ty.Ty.{Ty}
use Rattle.raml_syntax.specs.declared.ty.Ty.TheVariants as y
use Rattle.raml_syntax.specs.declared.ty.Ty.TheOpen as o
use Rattle.raml_syntax.specs.declared.ty.Ty.TheFolds.{fold-roll-Ty}

pub type_int : (x : Ty) → x ≡ y.Int → ty_of x ≡ Integer
type_int x h = ap ty_of h ∙ ap ty_of (sym y.rolls-Int) ∙ fold-roll-Ty Type' ty_step o.Int

pub type_bool : (x : Ty) → x ≡ y.Bool → ty_of x ≡ Boolean
type_bool x h = ap ty_of h ∙ ap ty_of (sym y.rolls-Bool) ∙ fold-roll-Ty Type' ty_step o.Bool

-- with its parts as they were read
pub type_pair : (x p q : Ty) (a b : Box Ty) → x ≡ y.Pair a b → p ≡ a.value → q ≡ b.value → ty_of x ≡ PairOf (ty_of p) (ty_of q)
type_pair x p q a b h d e =
    ap ty_of h ∙ ap ty_of (sym (y.rolls-Pair a b)) ∙ fold-roll-Ty Type' ty_step (o.Pair a b) ∙ (λ i. PairOf (ty_of (sym d i)) (ty_of (sym e i)))

pub type_list : (x p : Ty) (a : Box Ty) → x ≡ y.List a → p ≡ a.value → ty_of x ≡ ListOf (ty_of p)
type_list x p a h d = ap ty_of h ∙ ap ty_of (sym (y.rolls-List a)) ∙ fold-roll-Ty Type' ty_step (o.List a) ∙ ap (λ t. ListOf (ty_of t)) (sym d)

pub type_tree : (x p : Ty) (a : Box Ty) → x ≡ y.Tree a → p ≡ a.value → ty_of x ≡ TreeOf (ty_of p)
type_tree x p a h d = ap ty_of h ∙ ap ty_of (sym (y.rolls-Tree a)) ∙ fold-roll-Ty Type' ty_step (o.Tree a) ∙ ap (λ t. TreeOf (ty_of t)) (sym d)

pub type_option : (x p : Ty) (a : Box Ty) → x ≡ y.Opt a → p ≡ a.value → ty_of x ≡ OptionOf (ty_of p)
type_option x p a h d = ap ty_of h ∙ ap ty_of (sym (y.rolls-Opt a)) ∙ fold-roll-Ty Type' ty_step (o.Opt a) ∙ ap (λ t. OptionOf (ty_of t)) (sym d)
