-- The numbers of a tuple that is made of the indices of another.
use Rattle.std.proofs.Common.{◌≡◌, ◌≤◌, inl, inr, ℕ, zero, suc, Bool, true, false, cond, List, [], ◌∷◌, ◌++◌, map, drop, length, slice_get, slice_index_or, Option, None, Some, refl, sym, ap, ◌∙◌, arith, append_assoc}
use Rattle.raml_syntax.specs.Tree.{Type'}
use Rattle.base_poly.specs.Plain.{Plain, degrees}
use Rattle.base_poly.specs.Indices.{AreIndices, index_list}
use Rattle.base_poly.proofs.Among.{Among, among_contains}
use Rattle.base_poly.proofs.Exact.{exact}
use Rattle.index_shift.specs.Contexts.{marked_items, other_items}
use Rattle.index_shift.proofs.Carried.{as_long}
use Rattle.tuple_ranks.specs.Columns.{table, place}
use Rattle.tuple_ranks.specs.Numbers.{number, numbers}
use Rattle.tuple_ranks.specs.Slots.{picked, chosen, half_items, half_slots, plain_slots}
use Rattle.tuple_ranks.specs.Spots.{spot, half_spots, IsSmall}
use Rattle.tuple_ranks.proofs.Ranked.{places_are_spots}

pub listed : (As : List Type') (d : ℕ) (t : List Plain) → Among t (index_list As d) → AreIndices t As × (degrees t ≤ d)
listed As d t m = ((exact As d).exactly t).0 (among_contains t (index_list As d) m)

pub all_same : {X Y : Type 0} (f g : X → Y) (xs : List X) → ((x : X) → Among x xs → f x ≡ g x) → map f xs ≡ map g xs
all_same f g [] h = refl
all_same f g (x ∷ xs) h = λ i. h x (inl refl) i ∷ all_same f g xs (λ y m. h y (inr m)) i

pub map_twice : {X Y Z : Type 0} (f : X → Y) (g : Y → Z) (xs : List X) → map g (map f xs) ≡ map (λ x. g (f x)) xs
map_twice f g [] = refl
map_twice f g (x ∷ xs) = ap (λ l. g (f x) ∷ l) (map_twice f g xs)

-- Numbers as they are

at_front : (front : List ℕ) (n : ℕ) (rest : List ℕ) → slice_index_or (front ++ n ∷ rest) (length front) 0 ≡ n
at_front [] n rest = refl
at_front (x ∷ front) n rest = at_front front n rest

longer : {X : Type 0} (front : List X) (x : X) → length (front ++ x ∷ []) ≡ suc (length front)
longer [] x = refl
longer (y ∷ front) x = ap suc (longer front x)

plain_from : (front ns : List ℕ) (k : ℕ) → k ≡ length front → picked (plain_slots k (length ns)) (front ++ ns) ≡ ns
plain_from front [] k e = refl
plain_from front (n ∷ ns) k e =
    (λ i. (ap (λ k. slice_index_or (front ++ n ∷ ns) k 0) e ∙ at_front front n ns) i ∷ picked (plain_slots (suc k) (length ns)) (sym (append_assoc front (n ∷ []) ns) i))
    ∙ ap (λ l. n ∷ l) (plain_from (front ++ n ∷ []) ns (suc k) (ap suc e ∙ sym (longer front n)))

pub plain_is : (width : ℕ) (ns : List ℕ) → length ns ≡ width → picked (plain_slots 0 width) ns ≡ ns
plain_is width ns e = ap (λ w. picked (plain_slots 0 w) ns) (sym e) ∙ plain_from [] ns 0 refl

-- Halves

halves_from : (w : Bool) (marks : List Bool) (front ns : List ℕ) (k : ℕ) → k ≡ length front → picked (half_slots w marks k (length ns)) (front ++ ns) ≡ half_items w marks k ns
halves_from w marks front [] k e = refl
halves_from w marks front (n ∷ ns) k e =
    by (chosen w (slice_get marks k)) (ap (picked (half_slots w marks (suc k) (length ns))) (sym (append_assoc front (n ∷ []) ns)) ∙ halves_from w marks (front ++ n ∷ []) ns (suc k) (ap suc e ∙ sym (longer front n)))
  where
    by : (b : Bool) → picked (half_slots w marks (suc k) (length ns)) (front ++ n ∷ ns) ≡ half_items w marks (suc k) ns →
        picked (cond b ((k, None) ∷ half_slots w marks (suc k) (length ns)) (half_slots w marks (suc k) (length ns))) (front ++ n ∷ ns) ≡ cond b (n ∷ half_items w marks (suc k) ns) (half_items w marks (suc k) ns)
    by true more = λ i. (ap (λ k. slice_index_or (front ++ n ∷ ns) k 0) e ∙ at_front front n ns) i ∷ more i
    by false more = more

half_numbers : (w : Bool) (marks : List Bool) (k : ℕ) (As : List Type') (d : ℕ) (t : List Plain) → length t ≡ length As →
    numbers (half_items w marks k As) d (half_items w marks k t) ≡ half_items w marks k (numbers As d t)
half_numbers w marks k [] d [] e = refl
half_numbers w marks k [] d (i ∷ t) e = absurd (omega (arith, e))
half_numbers w marks k (A ∷ As) d [] e = absurd (omega (arith, e))
half_numbers w marks k (A ∷ As) d (i ∷ t) e = by (chosen w (slice_get marks k)) (half_numbers w marks (suc k) As d t (omega (arith, e)))
  where
    by : (b : Bool) → numbers (half_items w marks (suc k) As) d (half_items w marks (suc k) t) ≡ half_items w marks (suc k) (numbers As d t) →
        numbers (cond b (A ∷ half_items w marks (suc k) As) (half_items w marks (suc k) As)) d (cond b (i ∷ half_items w marks (suc k) t) (half_items w marks (suc k) t))
        ≡ cond b (number A d i ∷ half_items w marks (suc k) (numbers As d t)) (half_items w marks (suc k) (numbers As d t))
    by true more = ap (λ l. number A d i ∷ l) more
    by false more = more

drop_none : {X : Type 0} (xs : List X) (k : ℕ) → slice_get xs k ≡ None → drop k xs ≡ []
drop_none [] zero e = refl
drop_none [] (suc k) e = refl
drop_none (x ∷ xs) zero e = absurd (cc)
drop_none (x ∷ xs) (suc k) e = drop_none xs k e

drop_some : {X : Type 0} (xs : List X) (k : ℕ) (x : X) → slice_get xs k ≡ Some x → drop k xs ≡ x ∷ drop (suc k) xs
drop_some [] k x e = absurd (cc)
drop_some (y ∷ xs) zero x e = (λ i. same e i ∷ all xs i)
  where
    same : Some y ≡ Some x → y ≡ x
    same e = cc

    all : {X : Type 0} (xs : List X) → xs ≡ drop 0 xs
    all [] = refl
    all (x ∷ xs) = refl
drop_some (y ∷ xs) (suc k) x e = drop_some xs k x e

no_marked : {X : Type 0} (xs : List X) → marked_items [] xs ≡ []
no_marked [] = refl
no_marked (x ∷ xs) = refl

no_others : {X : Type 0} (xs : List X) → other_items [] xs ≡ []
no_others [] = refl
no_others (x ∷ xs) = refl

unmarked : {X : Type 0} (w : Bool) (marks : List Bool) (k : ℕ) (xs : List X) → slice_get marks k ≡ None → half_items w marks k xs ≡ []
unmarked w marks k [] e = refl
unmarked w marks k (x ∷ xs) e = (λ i. cond (chosen w (e i)) (x ∷ half_items w marks (suc k) xs) (half_items w marks (suc k) xs)) ∙ unmarked w marks (suc k) xs (later marks k e)
  where
    later : (ms : List Bool) (k : ℕ) → slice_get ms k ≡ None → slice_get ms (suc k) ≡ None
    later [] k e = refl
    later (m ∷ ms) zero e = absurd (cc)
    later (m ∷ ms) (suc k) e = later ms k e

pub marked_half : {X : Type 0} (marks : List Bool) (k : ℕ) (xs : List X) → half_items true marks k xs ≡ marked_items (drop k marks) xs
marked_half marks k [] = sym (none (drop k marks))
  where
    none : {X : Type 0} (ms : List Bool) → marked_items {X = X} ms [] ≡ []
    none [] = refl
    none (true ∷ ms) = refl
    none (false ∷ ms) = refl
marked_half marks k (x ∷ xs) = by (slice_get marks k) refl (marked_half marks (suc k) xs)
  where
    by : (o : Option Bool) → slice_get marks k ≡ o → half_items true marks (suc k) xs ≡ marked_items (drop (suc k) marks) xs → half_items true marks k (x ∷ xs) ≡ marked_items (drop k marks) (x ∷ xs)
    by None e more = unmarked true marks k (x ∷ xs) e ∙ sym (ap (λ ms. marked_items ms (x ∷ xs)) (drop_none marks k e))
    by (Some true) e more = (λ i. cond (chosen true (e i)) (x ∷ more i) (more i)) ∙ ap (λ ms. marked_items ms (x ∷ xs)) (sym (drop_some marks k true e))
    by (Some false) e more = (λ i. cond (chosen true (e i)) (x ∷ more i) (more i)) ∙ ap (λ ms. marked_items ms (x ∷ xs)) (sym (drop_some marks k false e))

pub other_half : {X : Type 0} (marks : List Bool) (k : ℕ) (xs : List X) → half_items false marks k xs ≡ other_items (drop k marks) xs
other_half marks k [] = sym (none (drop k marks))
  where
    none : {X : Type 0} (ms : List Bool) → other_items {X = X} ms [] ≡ []
    none [] = refl
    none (true ∷ ms) = refl
    none (false ∷ ms) = refl
other_half marks k (x ∷ xs) = by (slice_get marks k) refl (other_half marks (suc k) xs)
  where
    by : (o : Option Bool) → slice_get marks k ≡ o → half_items false marks (suc k) xs ≡ other_items (drop (suc k) marks) xs → half_items false marks k (x ∷ xs) ≡ other_items (drop k marks) (x ∷ xs)
    by None e more = unmarked false marks k (x ∷ xs) e ∙ sym (ap (λ ms. other_items ms (x ∷ xs)) (drop_none marks k e))
    by (Some true) e more = (λ i. cond (chosen false (e i)) (x ∷ more i) (more i)) ∙ ap (λ ms. other_items ms (x ∷ xs)) (sym (drop_some marks k true e))
    by (Some false) e more = (λ i. cond (chosen false (e i)) (x ∷ more i) (more i)) ∙ ap (λ ms. other_items ms (x ∷ xs)) (sym (drop_some marks k false e))

pub as_many : (As : List Type') (d : ℕ) (t : List Plain) → length t ≡ length As → length (numbers As d t) ≡ length As
as_many [] d [] h = refl
as_many [] d (i ∷ t) h = absurd (omega (arith, h))
as_many (A ∷ As) d [] h = absurd (omega (arith, h))
as_many (A ∷ As) d (i ∷ t) h = ap suc (as_many As d t (omega (arith, h)))

-- where a half of a tuple stands
half_place : (w : Bool) (marks : List Bool) (As : List Type') (d width : ℕ) → width ≡ length As → IsSmall (half_items w marks 0 As) d → (t : List Plain) → length t ≡ length As →
    place (table (half_items w marks 0 As) d) (picked (half_slots w marks 0 width) (numbers As d t)) ≡ spot (half_items w marks 0 As) d (half_items w marks 0 t)
half_place w marks As d width wide few t long =
    ap (place (table (half_items w marks 0 As) d))
    (ap (λ n. picked (half_slots w marks 0 n) (numbers As d t)) (wide ∙ sym (as_many As d t long)) ∙ halves_from w marks [] (numbers As d t) 0 refl ∙ sym (half_numbers w marks 0 As d t long))
    ∙ places_are_spots (half_items w marks 0 As) d few (half_items w marks 0 t)

pub halves_are : (marks : List Bool) (As : List Type') (d width : ℕ) → width ≡ length As → IsSmall (half_items false marks 0 As) d → IsSmall (half_items true marks 0 As) d →
    map (λ ns. (place (table (half_items false marks 0 As) d) (picked (half_slots false marks 0 width) ns), place (table (half_items true marks 0 As) d) (picked (half_slots true marks 0 width) ns)))
    (map (numbers As d) (index_list As d)) ≡ half_spots marks As d
halves_are marks As d width wide few more =
    map_twice (numbers As d) _ (index_list As d)
    ∙ all_same _ _ (index_list As d) (λ t m. let long = as_long t As (listed As d t m).0 in
    λ i. (
      (half_place false marks As d width wide few t long ∙ (λ j. spot (other_is As j) d (other_is t j))) i,
      (half_place true marks As d width wide more t long ∙ (λ j. spot (marked_is As j) d (marked_is t j))) i,
    ))
  where
    whole : drop 0 marks ≡ marks
    whole = all marks
      where
        all : (ms : List Bool) → drop 0 ms ≡ ms
        all [] = refl
        all (m ∷ ms) = refl

    other_is : {X : Type 0} (xs : List X) → half_items false marks 0 xs ≡ other_items marks xs
    other_is xs = other_half marks 0 xs ∙ ap (λ ms. other_items ms xs) whole

    marked_is : {X : Type 0} (xs : List X) → half_items true marks 0 xs ≡ marked_items marks xs
    marked_is xs = marked_half marks 0 xs ∙ ap (λ ms. marked_items ms xs) whole

-- Joins

pub joined_numbers : (As Bs : List Type') (d : ℕ) (j t : List Plain) → length j ≡ length As → numbers (As ++ Bs) d (j ++ t) ≡ numbers As d j ++ numbers Bs d t
joined_numbers [] Bs d [] t e = refl
joined_numbers [] Bs d (i ∷ j) t e = absurd (omega (arith, e))
joined_numbers (A ∷ As) Bs d [] t e = absurd (omega (arith, e))
joined_numbers (A ∷ As) Bs d (i ∷ j) t e = ap (λ l. number A d i ∷ l) (joined_numbers As Bs d j t (omega (arith, e)))
