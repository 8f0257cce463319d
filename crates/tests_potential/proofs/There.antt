-- The type of a variable at its place.
use Rattle.std.proofs.Common.{◌≡◌, ℕ, zero, suc, ◌<◌, List, [], ◌∷◌, length, get_or, slice_get, Some, Box, Global, sym, ap, ◌∙◌, arith}
use Rattle.raml_syntax.specs.Tree.{Type', PairOf, ListOf, TreeOf, OptionOf}
use Rattle.raml_syntax.specs.Read.{ty_of, ty_step}
use Rattle.raml_syntax.specs.declared.ty.Ty.{Ty}
use Rattle.raml_syntax.specs.declared.ty.Ty.TheOpen as o
use Rattle.raml_syntax.specs.declared.ty.Ty.TheVariants.{Pair, List as Items, Tree, Opt, rolls-Pair, rolls-List, rolls-Tree, rolls-Opt}
use Rattle.raml_syntax.specs.declared.ty.Ty.TheFolds.{fold-roll-Ty}
use Rattle.base_poly.specs.Read.{context_of}

there : (As : List Ty) (at : ℕ) (A : Ty) → at < length As → A ≡ get_or As at A → slice_get (context_of As) at ≡ Some (ty_of A)
there [] at A h e = absurd (omega (arith, h))
there (B ∷ As) zero A h e = ap (λ C. Some (ty_of C)) (sym e)
there (B ∷ As) (suc k) A h e = there As k A (omega (arith, h)) e

module _ (As : List Ty) (at : ℕ) (A : Ty) (below : at < length As) (is : A ≡ get_or As at A) where
  pub pair_there : (a b : Box Ty Global) → A ≡ Pair a b → slice_get (context_of As) at ≡ Some (PairOf (ty_of a.value) (ty_of b.value))
  pair_there a b h = there As at A below is ∙ ap Some (ap ty_of (h ∙ sym (rolls-Pair a b)) ∙ fold-roll-Ty Type' ty_step (o.Pair a b))

  pub list_there : (a : Box Ty Global) → A ≡ Items a → slice_get (context_of As) at ≡ Some (ListOf (ty_of a.value))
  list_there a h = there As at A below is ∙ ap Some (ap ty_of (h ∙ sym (rolls-List a)) ∙ fold-roll-Ty Type' ty_step (o.List a))

  pub tree_there : (a : Box Ty Global) → A ≡ Tree a → slice_get (context_of As) at ≡ Some (TreeOf (ty_of a.value))
  tree_there a h = there As at A below is ∙ ap Some (ap ty_of (h ∙ sym (rolls-Tree a)) ∙ fold-roll-Ty Type' ty_step (o.Tree a))

  pub option_there : (a : Box Ty Global) → A ≡ Opt a → slice_get (context_of As) at ≡ Some (OptionOf (ty_of a.value))
  option_there a h = there As at A below is ∙ ap Some (ap ty_of (h ∙ sym (rolls-Opt a)) ∙ fold-roll-Ty Type' ty_step (o.Opt a))
