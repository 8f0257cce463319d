-- At degree 0 a context has one tuple.
use Rattle.std.proofs.Common.{◌≡◌, ℕ, ◌-◌, cond, nat_eq, List, [], ◌∷◌, ◌++◌, map, length, refl, sym, ap, ◌∙◌, arith}
use Rattle.raml_syntax.specs.Tree.{Type', Integer, Boolean, PairOf, ListOf, TreeOf, OptionOf}
use Rattle.base_poly.specs.Plain.{Pair, deg, degrees}
use Rattle.base_poly.specs.Indices.{pairs_led, tuples_led, zero_of, indices_up_to, tuples_up_to, by_degree, index_list}
use Rattle.base_poly.proofs.Longer.{zero_degree, some_zeros}

none_left : (n : ℕ) → n ≡ 0 → 0 - n ≡ 0
none_left n e = omega (arith, e)

one_index : (A : Type') → indices_up_to A 0 ≡ zero_of A ∷ []
one_index Integer = refl
one_index Boolean = refl
one_index (PairOf A B) =
    ap (pairs_led (indices_up_to B) 0) (one_index A)
    ∙ ap (λ n. map (λ j. Pair (zero_of A) j) (indices_up_to B n) ++ []) (none_left (deg (zero_of A)) (zero_degree A))
    ∙ ap (λ l. map (λ j. Pair (zero_of A) j) l ++ []) (one_index B)
one_index (ListOf A) = refl
one_index (TreeOf A) = refl
one_index (OptionOf A) = refl

one_tuple : (As : List Type') → tuples_up_to As 0 ≡ map zero_of As ∷ []
one_tuple [] = refl
one_tuple (A ∷ As) =
    ap (tuples_led (tuples_up_to As) 0) (one_index A)
    ∙ ap (λ n. map (λ r. zero_of A ∷ r) (tuples_up_to As n) ++ []) (none_left (deg (zero_of A)) (zero_degree A))
    ∙ ap (λ l. map (λ r. zero_of A ∷ r) l ++ []) (one_tuple As)

pub one_listed : (As : List Type') → index_list As 0 ≡ map zero_of As ∷ []
one_listed As = ap (by_degree 1 0) (one_tuple As) ∙ ap (λ n. cond (nat_eq n 0) (map zero_of As ∷ []) [] ++ []) (some_zeros As).1

pub one_sized : (As : List Type') (d : ℕ) → d ≡ 0 → 0 ∷ [] ≡ map degrees (tuples_up_to As d)
one_sized As d e = sym (ap (λ d. map degrees (tuples_up_to As d)) e ∙ ap (map degrees) (one_tuple As) ∙ ap (λ n. n ∷ []) (some_zeros As).1)

pub one_long : (As : List Type') (d : ℕ) → d ≡ 0 → 1 ≡ length (index_list As d)
one_long As d e = sym (ap (λ d. length (index_list As d)) e ∙ ap length (one_listed As))
