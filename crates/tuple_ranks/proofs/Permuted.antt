-- Tuples in another order, where the indices stand for variables of another context.
use Rattle.std.proofs.Common.{◌≡◌, ◌≤◌, ◌<◌, ◌⊎◌, inl, inr, ⊎_elim, ℕ, zero, suc, ◌+◌, List, [], ◌∷◌, map, length, slice_get, slice_index_or, Option, Some, option_map, refl, sym, ap, ◌∙◌, arith}
use Rattle.std.proofs.lemmas.Option.{slice_get-map}
use Rattle.std.specs.List.{position_or_len, range_with_len}
use Rattle.raml_syntax.specs.Tree.{Type'}
use Rattle.base_poly.specs.Plain.{Plain, Unit', alike, degrees}
use Rattle.base_poly.specs.Indices.{AreIndices, tuples_up_to, index_list}
use Rattle.base_poly.proofs.Among.{Among}
use Rattle.base_poly.proofs.Exact.{whole_tuples}
use Rattle.index_shift.specs.Contexts.{insertion, permutation}
use Rattle.index_shift.specs.Tables.{fits, sums}
use Rattle.index_shift.specs.Tables as tables
use Rattle.index_shift.proofs.Carried.{as_long}
use Rattle.tuple_ranks.specs.Columns.{Column, sizes, count, columns, table, place, place_by, stands, led_by}
use Rattle.tuple_ranks.specs.Numbers.{number, numbers}
use Rattle.tuple_ranks.specs.Slots.{renumbered, seen_by, picked, renumbering, table_between, slots_between}
use Rattle.tuple_ranks.specs.Spots.{spot, permuted_spots, IsSmall}
use Rattle.tuple_ranks.proofs.Ranked.{places_are_spots, found}
use Rattle.tuple_ranks.proofs.Picked.{listed, all_same, map_twice}

-- Another order of what a function gives

insertion_map : {X Y : Type 0} (f : X → Y) (k : ℕ) (x : X) (xs : List X) → insertion k (f x) (map f xs) ≡ map f (insertion k x xs)
insertion_map f zero x [] = refl
insertion_map f zero x (y ∷ xs) = refl
insertion_map f (suc k) x [] = refl
insertion_map f (suc k) x (y ∷ xs) = ap (λ l. f y ∷ l) (insertion_map f k x xs)

permutation_map : {X Y : Type 0} (f : X → Y) (ks : List ℕ) (xs : List X) → permutation ks (map f xs) ≡ map f (permutation ks xs)
permutation_map f [] [] = refl
permutation_map f [] (x ∷ xs) = refl
permutation_map f (k ∷ ks) [] = refl
permutation_map f (k ∷ ks) (x ∷ xs) = ap (insertion k (f x)) (permutation_map f ks xs) ∙ insertion_map f k x (permutation ks xs)

inserted_among : {X : Type 0} (y : X) (k : ℕ) (x : X) (xs : List X) → Among y (insertion k x xs) → (x ≡ y) ⊎ Among y xs
inserted_among y zero x xs m = m
inserted_among y (suc k) x [] m = m
inserted_among y (suc k) x (z ∷ xs) (inl e) = inr (inl e)
inserted_among y (suc k) x (z ∷ xs) (inr m) = ⊎_elim (λ e. inl e) (λ n. inr (inr n)) (inserted_among y k x xs m)

permuted_among : {X : Type 0} (y : X) (ks : List ℕ) (xs : List X) → Among y (permutation ks xs) → Among y xs
permuted_among y [] [] m = absurd m
permuted_among y [] (x ∷ xs) m = absurd m
permuted_among y (k ∷ ks) [] m = absurd m
permuted_among y (k ∷ ks) (x ∷ xs) m = ⊎_elim (λ e. inl e) (λ n. inr (permuted_among y ks xs n)) (inserted_among y k x (permutation ks xs) m)

in_range : (y k n : ℕ) → Among y (range_with_len k n) → y < k + n
in_range y k zero m = absurd m
in_range y k (suc n) (inl e) = omega (arith, e)
in_range y k (suc n) (inr m) = let h = in_range y (k + 1) n m in omega (arith, h)

-- a tuple by its places
at_places : (front t : List Plain) (k : ℕ) (whole : List Plain) → ((m : ℕ) → slice_index_or whole (k + m) Unit' ≡ slice_index_or t m Unit') → t ≡ map (λ k. slice_index_or whole k Unit') (range_with_len k (length t))
at_places front [] k whole h = refl
at_places front (i ∷ t) k whole h = λ n. (sym (h 0) ∙ ap (λ k. slice_index_or whole k Unit') none) n ∷ at_places front t (k + 1) whole (λ m. ap (λ k. slice_index_or whole k Unit') (next m) ∙ h (suc m)) n
  where
    none : k + 0 ≡ k
    none = omega arith

    next : (m : ℕ) → k + 1 + m ≡ k + suc m
    next m = omega arith

-- What stands at a place of a tuple

record StandsAt (A : Type') (As : List Type') (d : ℕ) (t : List Plain) (p : ℕ) : Type 0 where
  there : slice_get As p ≡ Some A
  number_is : slice_index_or (numbers As d t) p 0 ≡ number A d (slice_index_or t p Unit')
  among : Among (slice_index_or t p Unit' ∷ []) (tuples_up_to (A ∷ []) d)

stands_at : (As : List Type') (d : ℕ) (t : List Plain) (p : ℕ) → AreIndices t As → degrees t ≤ d → p < length As → (A : Type') × StandsAt A As d t p
stands_at [] d t p h low inside = absurd (omega (arith, inside))
stands_at (A ∷ As) d [] p h low inside = absurd h
stands_at (A ∷ As) d (i ∷ t) zero h low inside = (A, record { there = refl; number_is = refl; among = whole_tuples (A ∷ []) d (i ∷ []) (h.0, tt) (omega (arith, low)) })
stands_at (A ∷ As) d (i ∷ t) (suc p) h low inside =
    let rest = stands_at As d t p h.1 (omega (arith, low)) (omega (arith, inside)) in
    (rest.0, record { there = rest.1.there; number_is = rest.1.number_is; among = rest.1.among })

read : (ns : List ℕ) (k n : ℕ) → slice_get ns k ≡ Some n → slice_index_or ns k 0 ≡ n
read [] k n h = absurd (cc)
read (m ∷ ns) zero n h = cc
read (m ∷ ns) (suc k) n h = read ns k n h

renumbered_is : (A B : Type') (d : ℕ) (i : Plain) → Among (i ∷ []) (tuples_up_to (A ∷ []) d) → slice_index_or (renumbering A B d) (number A d i) 0 ≡ number B d i
renumbered_is A B d i m =
    read (renumbering A B d) (number A d i) (number B d i)
    (slice_get-map (λ x. position_or_len (alike x) (tuples_up_to (B ∷ []) d)) (tuples_up_to (A ∷ []) d) (number A d i)
    ∙ ap (option_map (λ x. position_or_len (alike x) (tuples_up_to (B ∷ []) d))) (found (tuples_up_to (A ∷ []) d) (i ∷ []) m))

module _ (As Bs : List Type') (d : ℕ) (t : List Plain) (are : AreIndices t As) (low : degrees t ≤ d) where
  abbrev item : ℕ → Plain
  item k = slice_index_or t k Unit'

  one_seen : (p at : ℕ) (B : Type') → p < length As → slice_get Bs at ≡ Some B → seen_by (numbers As d t) (p, table_between (slice_get As p) (slice_get Bs at) d) ≡ number B d (item p)
  one_seen p at B inside there =
      let s = stands_at As d t p are low inside in
      (λ i. renumbered (table_between (s.1.there i) (there i) d) (s.1.number_is i)) ∙ renumbered_is s.0 B d (item p) s.1.among

  all_stand : (ps : List ℕ) (at : ℕ) (Cs : List Type') → ((p : ℕ) → Among p ps → p < length As) → ((m : ℕ) → slice_get Cs m ≡ slice_get Bs (at + m)) →
      stands d (columns d (sizes Cs d)) (picked (slots_between As Bs d at ps) (numbers As d t)) ≡ stands d (columns d (sizes Cs d)) (numbers Cs d (map item ps))
  all_stand [] at [] inside rest = refl
  all_stand [] at (C ∷ Cs) inside rest = refl
  all_stand (p ∷ ps) at [] inside rest = refl
  all_stand (p ∷ ps) at (C ∷ Cs) inside rest =
      led (record { sizes = map degrees (tuples_up_to (C ∷ []) d); behind = tables.listed (count (sizes Cs d)) 0 (1 + d) })
      (one_seen p at C (inside p (inl refl)) (ap (slice_get Bs) (sym none) ∙ sym (rest 0)))
      (all_stand ps (suc at) Cs (λ q m. inside q (inr m)) (λ m. rest (suc m) ∙ ap (slice_get Bs) (next m)))
    where
      none : at + 0 ≡ at
      none = omega arith

      next : (m : ℕ) → at + suc m ≡ suc at + m
      next m = omega arith

      led : {m n : ℕ} {r s : Option (ℕ × ℕ)} (c : Column) → m ≡ n → r ≡ s → led_by d c m (slice_get c.sizes m) r ≡ led_by d c n (slice_get c.sizes n) s
      led c e f = λ i. led_by d c (e i) (slice_get c.sizes (e i)) (f i)

-- where a tuple of As stands in another order among those of Bs
pub permuted_place : (order : List ℕ) (As Bs : List Type') (d width : ℕ) → width ≡ length As → IsSmall Bs d → (t : List Plain) → Among t (index_list As d) →
    place (table Bs d) (picked (slots_between As Bs d 0 (permutation order (range_with_len 0 width))) (numbers As d t)) ≡ spot Bs d (permutation order t)
permuted_place order As Bs d width wide few t m =
    ap (place_by (table Bs d))
    (all_stand As Bs d t h.0 h.1 picks 0 Bs (λ p n. below p n) (λ m. ap (slice_get Bs) (none m))
    ∙ ap (λ u. stands d (columns d (sizes Bs d)) (numbers Bs d u)) in_order)
    ∙ places_are_spots Bs d few (permutation order t)
  where
    h : AreIndices t As × (degrees t ≤ d)
    h = listed As d t m

    picks : List ℕ
    picks = permutation order (range_with_len 0 width)

    none : (m : ℕ) → m ≡ 0 + m
    none m = omega arith

    below : (p : ℕ) → Among p (permutation order (range_with_len 0 width)) → p < length As
    below p n = let b = in_range p 0 width (permuted_among p order (range_with_len 0 width) n) in omega (arith, b, wide)

    in_order : map (λ k. slice_index_or t k Unit') (permutation order (range_with_len 0 width)) ≡ permutation order t
    in_order =
        sym (permutation_map (λ k. slice_index_or t k Unit') order (range_with_len 0 width))
        ∙ ap (permutation order) (ap (λ n. map (λ k. slice_index_or t k Unit') (range_with_len 0 n)) (wide ∙ sym (as_long t As h.0)) ∙ sym (at_places [] t 0 t (λ m. ap (λ k. slice_index_or t k Unit') (sym (none m)))))

pub permuted_are : (order : List ℕ) (As Bs : List Type') (d width : ℕ) → width ≡ length As → IsSmall Bs d →
    map (λ ns. place (table Bs d) (picked (slots_between As Bs d 0 (permutation order (range_with_len 0 width))) ns)) (map (numbers As d) (index_list As d)) ≡ permuted_spots order As Bs d
permuted_are order As Bs d width wide few = map_twice (numbers As d) _ (index_list As d) ∙ all_same _ _ (index_list As d) (permuted_place order As Bs d width wide few)
