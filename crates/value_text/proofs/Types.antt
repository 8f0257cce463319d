-- What types are as plain data.
use Rattle.std.proofs.Common.{◌≡◌, sym, ap, ◌∙◌, Result, Ok, Err}
use Rattle.std.specs.Prelude.{OnOk}
use Rattle.std.specs.Global.{Box}
use Rattle.raml_syntax.specs.Tree.{Type', Integer, Boolean, PairOf, ListOf, TreeOf, OptionOf}
use Rattle.raml_syntax.specs.Read.{ty_of, ty_step}
use Rattle.raml_syntax.specs.declared.ty.Ty.{Ty}
use Rattle.raml_syntax.specs.declared.ty.Ty.TheVariants as y
use Rattle.raml_syntax.specs.declared.ty.Ty.TheOpen as o
use Rattle.raml_syntax.specs.declared.ty.Ty.TheFolds.{fold-roll-Ty}

pub type_int : (x : Ty) → x ≡ y.Int → ty_of x ≡ Integer
type_int x h = ap ty_of h ∙ ap ty_of (sym y.rolls-Int) ∙ fold-roll-Ty Type' ty_step o.Int

pub type_bool : (x : Ty) → x ≡ y.Bool → ty_of x ≡ Boolean
type_bool x h = ap ty_of h ∙ ap ty_of (sym y.rolls-Bool) ∙ fold-roll-Ty Type' ty_step o.Bool

pub type_pair : (x : Ty) (a b : Box Ty) → x ≡ y.Pair a b → ty_of x ≡ PairOf (ty_of a.value) (ty_of b.value)
type_pair x a b h = ap ty_of h ∙ ap ty_of (sym (y.rolls-Pair a b)) ∙ fold-roll-Ty Type' ty_step (o.Pair a b)

pub type_list : (x : Ty) (a : Box Ty) → x ≡ y.List a → ty_of x ≡ ListOf (ty_of a.value)
type_list x a h = ap ty_of h ∙ ap ty_of (sym (y.rolls-List a)) ∙ fold-roll-Ty Type' ty_step (o.List a)

pub type_tree : (x : Ty) (a : Box Ty) → x ≡ y.Tree a → ty_of x ≡ TreeOf (ty_of a.value)
type_tree x a h = ap ty_of h ∙ ap ty_of (sym (y.rolls-Tree a)) ∙ fold-roll-Ty Type' ty_step (o.Tree a)

pub type_option : (x : Ty) (a : Box Ty) → x ≡ y.Opt a → ty_of x ≡ OptionOf (ty_of a.value)
type_option x a h = ap ty_of h ∙ ap ty_of (sym (y.rolls-Opt a)) ∙ fold-roll-Ty Type' ty_step (o.Opt a)

-- two clauses of what a call gives, put together
pub both_ok : {T E P Q R : Type 0} (r : Result T E) → (P → Q → R) → OnOk r P → OnOk r Q → OnOk r R
both_ok (Ok x) f h k = f h k
both_ok (Err e) f h k = tt
