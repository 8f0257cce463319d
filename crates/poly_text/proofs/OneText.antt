-- A polynomial has one text: its terms have one order.
use Rattle.std.proofs.Common.{◌≡◌, ◌+◌, ◌==◌, ℕ, suc, ℤ, true, false, not, filter, List, [], ◌∷◌, map, refl, sym, ap, ◌∙◌, subst, arith, slice_index_or}
use Rattle.std.specs.declared.cmp.Ordering.{Ordering}
use Rattle.std.specs.declared.cmp.Ordering.TheVariants.{Less, Equal, Greater}
use Rattle.std.specs.Ordering.{ordering_reverse, ordering_then, is_eq, is_lt, nat_cmp}
use Rattle.std.specs.List.{IsDistinct}
use Rattle.std.specs.List.Sorted.{IsSortedByKey, IsPermutation}
use Rattle.std.specs.Map.{keys_of}
use Rattle.std.proofs.lemmas.Cmp.{eq_by_cmp_equiv}
use Rattle.std.proofs.lemmas.List.Sorted.{IsPermutation-map, IsPermutation-sym, Contains-permutation}
use Rattle.std.proofs.lemmas.Map.Keys.{IsDistinct-head, IsDistinct-tail, IsDistinct-IsPermutation}
use Rattle.std.proofs.lemmas.Map.Made.{IsDistinct-keys_filter}
use Rattle.raml_syntax.specs.Tree.{Text}
use Rattle.base_poly.specs.Plain.{Plain, many, degrees, alike}
use Rattle.base_poly.specs.Indices.{Ascends, each_in_turn, tuple_order}
use Rattle.base_poly.specs.Poly.{Term, magnitudes, terms_of, den_of, IsPoly}
use Rattle.base_poly.specs.Total.{order_total, tuple_total, order_many}
use Rattle.base_poly.specs.declared.tuple.Poly.{Poly}
use Rattle.base_poly.proofs.Among.{Among, among_contains, contains_among, before_all, before_one}
use Rattle.base_poly.proofs.Only.{one_order, never_both}
use Rattle.poly_text.specs.Text.{IsTextOf, sum_text, PolynomialsHaveOneText}

abbrev by_tuple : Term → Term → Ordering
by_tuple t u = tuple_order t.0 u.0

second : (o p : Ordering) → ordering_then o p ≡ Equal → p ≡ Equal
second Less p h = cc
second Equal p h = h
second Greater p h = cc

-- neither greater nor equal
less : (t u : List Plain) → is_lt (tuple_order u t) ≡ false → alike t u ≡ false → tuple_order t u ≡ Less
less t u up apart = at (tuple_order t u) refl
  where
    no : true ≡ false → ⊥
    no e = cc

    at : (o : Ordering) → tuple_order t u ≡ o → o ≡ Less
    at Less e = refl
    at Equal e = absurd (no (ap is_eq (sym (second (nat_cmp (degrees t) (degrees u)) (each_in_turn t u) e) ∙ sym (order_many t u)) ∙ apart))
    at Greater e = absurd (no (ap is_lt (sym (tuple_total.antisymm u t ∙ ap ordering_reverse e)) ∙ up))

-- terms that are sorted and of distinct tuples ascend
ascends : (ts : List Term) → IsSortedByKey (λ t. t.0) tuple_order ts → IsDistinct alike (keys_of ts) → Ascends by_tuple ts
ascends [] up apart = tt
ascends (t ∷ []) up apart = (tt, tt)
ascends (t ∷ u ∷ ts) up apart =
    let more = ascends (u ∷ ts) (λ k d low high. ap (λ n. is_lt (tuple_order (slice_index_or (t ∷ u ∷ ts) n d).0 (slice_index_or (u ∷ ts) k d).0)) (behind k) ∙ up (suc k) d (omega arith) (omega (arith, high)))
    (IsDistinct-tail alike t.0 (keys_of (u ∷ ts)) apart) in
    let next = less t.0 u.0 (up 0 t (omega arith) (omega arith)) (IsDistinct-head alike t.0 (keys_of (u ∷ ts)) apart).0 in
    ((next, before_all by_tuple t ts (λ w m. tuple_total.trans t.0 u.0 w.0 next (before_one by_tuple u w ts more.0 m))), more)
  where
    behind : (k : ℕ) → suc (k + 1) ≡ suc k + 1
    behind k = omega arith

same_keys : (ts : List (List Plain × ℤ)) → map (λ t. t.0) ts ≡ keys_of (magnitudes ts)
same_keys [] = refl
same_keys (t ∷ ts) = ap (λ l. t.0 ∷ l) (same_keys ts)

module _ (p : Poly) (poly : IsPoly p) where
  abbrev terms : List Term
  terms = filter (λ t. not (t.1 == 0)) (terms_of p)

  apart : IsDistinct alike (keys_of terms)
  apart = IsDistinct-keys_filter alike (λ t. not (t.1 == 0)) (terms_of p) (subst (IsDistinct alike) (same_keys p.terms.items) poly.terms.distinct)

  ordered_ascends : (ts : List Term) → IsPermutation terms ts → IsSortedByKey (λ t. t.0) tuple_order ts → Ascends by_tuple ts
  ordered_ascends ts same up =
      ascends ts up (IsDistinct-IsPermutation alike (λ t u. (eq_by_cmp_equiv order_total).symm (many t) (many u)) (keys_of terms) (keys_of ts) (IsPermutation-map (λ t. t.0) terms ts same) apart)

  one_text : (text other : Text) → IsTextOf (den_of p) (terms_of p) text → IsTextOf (den_of p) (terms_of p) other → text ≡ other
  one_text text other h g =
      h.is ∙ ap (sum_text (den_of p)) (one_order by_tuple (λ t u. never_both t.0 u.0) h.ordered g.ordered (ordered_ascends h.ordered h.same h.sorted) (ordered_ascends g.ordered g.same g.sorted)
      (λ t m. all_there h.ordered g.ordered h.same g.same t m) (λ t m. all_there g.ordered h.ordered g.same h.same t m)) ∙ sym g.is
    where
      all_there : (ts us : List Term) → IsPermutation terms ts → IsPermutation terms us → (t : Term) → Among t ts → Among t us
      all_there ts us a b t m = contains_among t us (Contains-permutation terms us t b (Contains-permutation ts terms t (IsPermutation-sym terms ts a) (among_contains t ts m)))

pub polynomials_have_one_text : PolynomialsHaveOneText
polynomials_have_one_text p text other poly h g = one_text p poly text other h g
