-- At degree 0 a context has one tuple.
use Rattle.std.proofs.Common.{◌≡◌, ◌-◌, ℕ, Bool, true, false, not, cond, List, [], ◌∷◌, ◌++◌, map, length, refl, sym, ap, ◌∙◌, arith}
use Rattle.std.proofs.lemmas.List.{map-append}
use Rattle.std.specs.List.{position_or_len}
use Rattle.raml_syntax.specs.Tree.{Type'}
use Rattle.base_poly.specs.Plain.{Plain, degrees, alike}
use Rattle.base_poly.specs.Indices.{zero_of, index_list}
use Rattle.base_poly.specs.Total.{alike_self}
use Rattle.base_poly.proofs.Least.{one_listed, one_long}
use Rattle.base_poly.proofs.Longer.{some_zeros}
use Rattle.index_shift.specs.Contexts.{marked_items, other_items}
use Rattle.tuple_ranks.specs.Spots.{spot, half_spots, joined_spots, all_counts, IsSmall}

stands_first : (As : List Type') (t : List Plain) → t ≡ map zero_of As → spot As 0 t ≡ 0
stands_first As t e = (λ i. position_or_len (alike (e i)) (one_listed As i)) ∙ ap (λ b. cond (not b) 1 0) (alike_self (map zero_of As))

others_mapped : {X Y : Type 0} (f : X → Y) (marks : List Bool) (xs : List X) → other_items marks (map f xs) ≡ map f (other_items marks xs)
others_mapped f [] [] = refl
others_mapped f [] (x ∷ xs) = refl
others_mapped f (true ∷ marks) [] = refl
others_mapped f (true ∷ marks) (x ∷ xs) = others_mapped f marks xs
others_mapped f (false ∷ marks) [] = refl
others_mapped f (false ∷ marks) (x ∷ xs) = ap (λ l. f x ∷ l) (others_mapped f marks xs)

marked_mapped : {X Y : Type 0} (f : X → Y) (marks : List Bool) (xs : List X) → marked_items marks (map f xs) ≡ map f (marked_items marks xs)
marked_mapped f [] [] = refl
marked_mapped f [] (x ∷ xs) = refl
marked_mapped f (true ∷ marks) [] = refl
marked_mapped f (true ∷ marks) (x ∷ xs) = ap (λ l. f x ∷ l) (marked_mapped f marks xs)
marked_mapped f (false ∷ marks) [] = refl
marked_mapped f (false ∷ marks) (x ∷ xs) = marked_mapped f marks xs

pub least_halves : (marks : List Bool) (As : List Type') → (0, 0) ∷ [] ≡ half_spots marks As 0
least_halves marks As =
    sym
    (ap (map (λ t. (spot (other_items marks As) 0 (other_items marks t), spot (marked_items marks As) 0 (marked_items marks t)))) (one_listed As)
    ∙ (λ i. (stands_first (other_items marks As) _ (others_mapped zero_of marks As) i, stands_first (marked_items marks As) _ (marked_mapped zero_of marks As) i) ∷ []))

pub least_joined : (As Bs : List Type') → (0, 0 ∷ []) ∷ [] ≡ joined_spots As Bs 0
least_joined As Bs =
    sym
    (ap (map (λ j. (degrees j, map (λ t. spot (As ++ Bs) 0 (j ++ t)) (index_list Bs (0 - degrees j))))) (one_listed As)
    ∙ ap (λ n. (n, map (λ t. spot (As ++ Bs) 0 (map zero_of As ++ t)) (index_list Bs (0 - n))) ∷ []) (some_zeros As).1
    ∙ ap (λ l. (0, map (λ t. spot (As ++ Bs) 0 (map zero_of As ++ t)) l) ∷ []) (one_listed Bs)
    ∙ ap (λ s. (0, s ∷ []) ∷ []) (stands_first (As ++ Bs) _ (sym (map-append zero_of As Bs))))

pub least_counts : (As : List Type') → 1 ∷ [] ≡ all_counts As 0
least_counts As = ap (λ l. length l ∷ []) (sym (one_listed As))

pub least_small : (As : List Type') (d : ℕ) → d ≡ 0 → IsSmall As d
least_small As d e = let one = one_long As d e in omega (arith, one)
