-- Lists and trees of elements without a size count as those of numbers.
use Rattle.std.proofs.Common.{◌≡◌, ℕ, zero, suc, ◌+◌, ◌*◌, ◌&&◌, Bool, true, false, List, [], ◌∷◌, ◌++◌, refl, sym, ap, ◌∙◌}
use Rattle.raml_syntax.specs.Tree.{Type', Integer, Boolean, PairOf, ListOf, TreeOf}
use Rattle.raml_syntax.specs.Value.{Value, Has, Empty, Cons, Node}
use Rattle.base_poly.specs.Plain.{Plain, Unit', Pair, End, Then, entry_count}
use Rattle.base_poly.specs.Indices.{IsIndex, zero_of}
use Rattle.base_poly.specs.Base.{base, over, elements}
use Rattle.base_poly.proofs.Recursion.{types_have_zero}
use Rattle.base_poly.proofs.Sums.{over_more}
use Rattle.bound_compare.specs.Laws.{picks}
use Rattle.explain_algebra.specs.Laws.{holds_no_size, CountsOne, CountsByEntries, CountAsNumbers}

pub both : (a b : Bool) → (a && b) ≡ true → (a ≡ true) × (b ≡ true)
both true b h = (refl, h)
both false b h = cc

only : (A : Type') → holds_no_size A ≡ true → (i : Plain) → IsIndex i A → i ≡ zero_of A
only Integer h Unit' m = refl
only Integer h x m = absurd m
only Boolean h Unit' m = refl
only Boolean h x m = absurd m
only (PairOf A B) h (Pair i j) m =
    let each = both (holds_no_size A) (holds_no_size B) h in
    let first = only A each.0 i m.0 in let second = only B each.1 j m.1 in λ n. Pair (first n) (second n)
only (PairOf A B) h x m = absurd m
only A h i m = cc

counts_one : (A : Type') → holds_no_size A ≡ true → CountsOne A
counts_one A h = let zero = types_have_zero A in record { only = only A h; degree = zero.degree; one = zero.one }

module _ (A : Type') (h : holds_no_size A ≡ true) where
  abbrev Have : List Value → Type 0
  Have [] = Unit {0}
  Have (v ∷ vs) = Has v A × Have vs

  is_one : (i : Plain) (v : Value) → IsIndex i A → Has v A → base i v ≡ 1
  is_one i v m t = let one = counts_one A h in ap (λ j. base j v) (one.only i m) ∙ one.one v t

  over_elements : (i : Plain) (vs : List Value) → IsIndex i (ListOf A) → Have vs → over i vs ≡ over (picks (entry_count i)) vs
  over_elements End vs m t = refl
  over_elements (Then i r) [] m t = refl
  over_elements (Then i r) (v ∷ vs) m t =
      let here = is_one i v m.0 t.0 in
      let others = over_elements r vs m.1 t.1 in
      let later = over_elements (Then i r) vs m t.1 in
      over_more i r v vs ∙ (λ n. here n * others n + later n) ∙ sym (over_more Unit' (picks (entry_count r)) v vs)
  over_elements x vs m t = absurd m

  joined_have : (vs ws : List Value) → Have vs → Have ws → Have (vs ++ ws)
  joined_have [] ws s t = t
  joined_have (v ∷ vs) ws s t = (s.0, joined_have vs ws s.1 t)

  list_has : (v : Value) → Has v (ListOf A) → Have (elements v)
  list_has Empty t = tt
  list_has (Cons v w) t = (t.0, list_has w t.1)
  list_has v t = absurd t

  tree_has : (v : Value) → Has v (TreeOf A) → Have (elements v)
  tree_has Empty t = tt
  tree_has (Node v l r) t = (t.0, joined_have (elements l) (elements r) (tree_has l t.1) (tree_has r t.2))
  tree_has v t = absurd t

  list_index : (i : Plain) → IsIndex i (TreeOf A) → IsIndex i (ListOf A)
  list_index End m = tt
  list_index (Then i r) m = (m.0, list_index r m.1)
  list_index x m = absurd m

  base_over : (i : Plain) (v : Value) → IsIndex i (ListOf A) → base i v ≡ over i (elements v)
  base_over End v m = refl
  base_over (Then i r) v m = refl
  base_over x v m = absurd m

  picks_over : (k : ℕ) (v : Value) → base (picks k) v ≡ over (picks k) (elements v)
  picks_over zero v = refl
  picks_over (suc k) v = refl

  by_elements : (i : Plain) (v : Value) → IsIndex i (ListOf A) → Have (elements v) → base i v ≡ base (picks (entry_count i)) v
  by_elements i v m t = base_over i v m ∙ over_elements i (elements v) m t ∙ sym (picks_over (entry_count i) v)

  lists_count : CountsByEntries (ListOf A)
  lists_count i v m t = by_elements i v m (list_has v t)

  trees_count : CountsByEntries (TreeOf A)
  trees_count i v m t = by_elements i v (list_index i m) (tree_has v t)

pub count_as_numbers : CountAsNumbers
count_as_numbers = record { elements = counts_one; lists = lists_count; trees = trees_count }
