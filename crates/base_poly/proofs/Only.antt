-- No other list has the same tuples in order.
use Rattle.std.proofs.Common.{◌≡◌, ℕ, zero, suc, ◌⊎◌, inl, inr, ⊎_elim, List, [], ◌∷◌, map, slice_get, Some, refl, sym, ap, ◌∙◌, arith}
use Rattle.std.specs.declared.cmp.Ordering.{Ordering}
use Rattle.std.specs.declared.cmp.Ordering.TheVariants.{Less, Greater}
use Rattle.std.specs.Ordering.{ordering_reverse, ordering_then, nat_cmp}
use Rattle.std.proofs.lemmas.Bool.Decides.{nat_tests}
use Rattle.raml_syntax.specs.Tree.{Type'}
use Rattle.base_poly.specs.Plain.{Plain, degrees}
use Rattle.base_poly.specs.Total.{tuple_total}
use Rattle.base_poly.specs.Indices.{AreIndices, IsBefore, Ascends, ListsTuples, zero_of, each_in_turn, tuple_order, index_list}
use Rattle.base_poly.specs.Laws.{IndicesAreListed}
use Rattle.base_poly.proofs.Among.{Among, contains_among, among_contains, before_one}
use Rattle.base_poly.proofs.Exact.{exact}
use Rattle.base_poly.proofs.Longer.{some_zeros}
use Rattle.base_poly.proofs.Recursion.{types_have_zero}

module _ {X : Type 0} (by : X → X → Ordering) (never : (x y : X) → by x y ≡ Less → by y x ≡ Less → ⊥) where
  pub one_order : (xs ys : List X) → Ascends by xs → Ascends by ys → ((x : X) → Among x xs → Among x ys) → ((x : X) → Among x ys → Among x xs) → xs ≡ ys
  one_order [] [] h g f b = refl
  one_order [] (y ∷ ys) h g f b = absurd (b y (inl refl))
  one_order (x ∷ xs) [] h g f b = absurd (f x (inl refl))
  one_order (x ∷ xs) (y ∷ ys) h g f b =
      let same = first (f x (inl refl)) (b y (inl refl)) in
      (λ i. sym same i ∷ one_order xs ys h.1 g.1 (λ z m. rest_of xs ys h.0 (sym same) (f z (inr m)) m) (λ z m. rest_of ys xs g.0 same (b z (inr m)) m) i)
    where
      first : (y ≡ x) ⊎ Among x ys → (x ≡ y) ⊎ Among y xs → y ≡ x
      first m n = ⊎_elim (λ e. e) (λ p. ⊎_elim (λ e. sym e) (λ q. absurd (never x y (before_one by x y xs h.0 q) (before_one by y x ys g.0 p))) n) m

      rest_of : {u w z : X} (us ws : List X) → IsBefore by u us → u ≡ w → (w ≡ z) ⊎ Among z ws → Among z us → Among z ws
      rest_of {u} {w} {z} us ws before e m n = ⊎_elim (λ d. absurd (let less = before_one by u z us before n in let other : by u u ≡ Less = ap (by u) (e ∙ d) ∙ less in never u u other other)) (λ p. p) m

pub never_both : (x y : List Plain) → tuple_order x y ≡ Less → tuple_order y x ≡ Less → ⊥
never_both x y h g = apart (sym h ∙ tuple_total.antisymm x y ∙ ap ordering_reverse g)
  where
    apart : Less ≡ Greater → ⊥
    apart e = cc

-- The first tuple

zeros_only : (As : List Type') (t : List Plain) → AreIndices t As → degrees t ≡ 0 → t ≡ map zero_of As
zeros_only [] [] h e = refl
zeros_only [] (i ∷ t) h e = absurd h
zeros_only (A ∷ As) [] h e = absurd h
zeros_only (A ∷ As) (i ∷ t) h e =
    let one = (types_have_zero A).only i h.0 (omega (arith, e)) in let more = zeros_only As t h.1 (omega (arith, e)) in λ n. one n ∷ more n

-- a tuple before one of degree 0 has degree 0
low_before : (m : ℕ) (o : Ordering) → ordering_then (nat_cmp m 0) o ≡ Less → m ≡ 0
low_before zero o h = refl
low_before (suc m) o h = absurd (apart (sym h ∙ ap (λ p. ordering_then p o) above))
  where
    above : nat_cmp (suc m) 0 ≡ Greater
    above = grind (arith, nat_tests)

    apart : Less ≡ Greater → ⊥
    apart e = cc

first_is_zero : (As : List Type') (d : ℕ) (ts : List (List Plain)) → ListsTuples As d ts → slice_get ts 0 ≡ Some (map zero_of As)
first_is_zero As d [] h = let z = some_zeros As in absurd (contains_among (map zero_of As) [] ((h.exactly (map zero_of As)).1 (z.0, (let none = z.1 in omega (arith, none)))))
first_is_zero As d (t ∷ ts) h =
    let z = some_zeros As in
    let there = contains_among (map zero_of As) (t ∷ ts) ((h.exactly (map zero_of As)).1 (z.0, (let none = z.1 in omega (arith, none)))) in
    ⊎_elim (λ e. ap Some e) (λ m.
    let before = before_one tuple_order t (map zero_of As) ts h.ascends.0 m in
    let low = low_before (degrees t) (each_in_turn t (map zero_of As)) ((λ n. ordering_then (nat_cmp (degrees t) (sym z.1 n)) (each_in_turn t (map zero_of As))) ∙ before) in
    let mine = (h.exactly t).0 (among_contains t (t ∷ ts) (inl refl)) in
    let same = zeros_only As t mine.0 low in
    let less = ap (λ u. tuple_order u (map zero_of As)) (sym same) ∙ before in absurd (never_both (map zero_of As) (map zero_of As) less less)) there

pub indices_are_listed : IndicesAreListed
indices_are_listed = record {
  listed = exact;
  first = λ As d. first_is_zero As d (index_list As d) (exact As d);
  only = λ As d ts us h g. one_order tuple_order never_both ts us h.ascends g.ascends
      (λ t m. contains_among t us ((g.exactly t).1 ((h.exactly t).0 (among_contains t ts m))))
      (λ t m. contains_among t ts ((h.exactly t).1 ((g.exactly t).0 (among_contains t us m))));
}
