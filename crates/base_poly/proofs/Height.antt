-- How large a type is, and how it is read.
use Rattle.std.proofs.Common.{◌≡◌, ℕ, ◌+◌, Box, Global, sym, ap, ◌∙◌}
use Rattle.raml_syntax.specs.Tree.{Type', Integer, Boolean, PairOf, ListOf, TreeOf, OptionOf}
use Rattle.raml_syntax.specs.Read.{ty_of, ty_step}
use Rattle.raml_syntax.specs.declared.ty.Ty.{Ty}
use Rattle.raml_syntax.specs.declared.ty.Ty.TheOpen as o
use Rattle.raml_syntax.specs.declared.ty.Ty.TheVariants.{Pair, List as List', Tree as Tree', rolls-Pair, rolls-List, rolls-Tree}
use Rattle.raml_syntax.specs.declared.ty.Ty.TheFolds.{fold-roll-Ty}
use Rattle.base_poly.specs.Plain as p
use Rattle.base_poly.specs.Plain.{Plain, Unit', End, Then, NoEntry, OneEntry}

abbrev pub nodes : Type' → ℕ
nodes Integer = 1
nodes Boolean = 1
nodes (PairOf A B) = 1 + (nodes A + nodes B)
nodes (ListOf A) = 1 + nodes A
nodes (TreeOf A) = 1 + nodes A
nodes (OptionOf A) = 1 + nodes A

ty_pair : (x : Ty) (a b : Box Ty Global) → x ≡ Pair a b → ty_of x ≡ PairOf (ty_of a.value) (ty_of b.value)
ty_pair x a b h = ap ty_of h ∙ ap ty_of (sym (rolls-Pair a b)) ∙ fold-roll-Ty Type' ty_step (o.Pair a b)

-- a pair type, with its parts where they were read
pub pair_of_parts : (x f g : Ty) (a b : Box Ty Global) → x ≡ Pair a b → f ≡ a.value → g ≡ b.value → PairOf (ty_of f) (ty_of g) ≡ ty_of x
pair_of_parts x f g a b h d e = (λ i. PairOf (ty_of (d i)) (ty_of (e i))) ∙ sym (ty_pair x a b h)

-- a list type or a tree type likewise
pub list_of_part : (x e : Ty) (a : Box Ty Global) → x ≡ List' a → e ≡ a.value → ListOf (ty_of e) ≡ ty_of x
list_of_part x e a h d = (λ i. ListOf (ty_of (d i))) ∙ sym (ap ty_of h ∙ ap ty_of (sym (rolls-List a)) ∙ fold-roll-Ty Type' ty_step (o.List a))

pub tree_of_part : (x e : Ty) (a : Box Ty Global) → x ≡ Tree' a → e ≡ a.value → TreeOf (ty_of e) ≡ ty_of x
tree_of_part x e a h d = (λ i. TreeOf (ty_of (d i))) ∙ sym (ap ty_of h ∙ ap ty_of (sym (rolls-Tree a)) ∙ fold-roll-Ty Type' ty_step (o.Tree a))

-- how many parts an index has
abbrev pub parts : Plain → ℕ
parts Unit' = 1
parts (p.Pair a b) = 1 + (parts a + parts b)
parts End = 1
parts (Then i r) = 1 + (parts i + parts r)
parts NoEntry = 1
parts (OneEntry i) = 1 + parts i
