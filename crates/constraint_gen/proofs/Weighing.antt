-- Weights of tuples by degrees.
use Rattle.std.proofs.Common.{◌≡◌, ◌≤◌, ◌^◌, ◌+◌, ℕ, suc, ℤ, pos, Bool, true, false, cond, nat_eq, List, [], ◌∷◌, ◌++◌, map, filter, replicate, refl, sym, ap, ◌∙◌}
use Rattle.std.proofs.lemmas.List.{map-append}
use Rattle.std.proofs.lemmas.Bool.{eqb-true}
use Rattle.raml_syntax.specs.Tree.{Type'}
use Rattle.base_poly.specs.Plain.{Plain, degrees}
use Rattle.base_poly.specs.Indices.{tuples_up_to, index_list}
use Rattle.index_shift.specs.Tables.{how_many}
use Rattle.index_shift.proofs.Exactly.{exactly, each_degree, by_degrees, of_degree}
use Rattle.constraint_gen.specs.Weights.{weight_of}

kept_weights : (g : ℕ) (ts : List (List Plain)) → map weight_of (filter (λ t. nat_eq (degrees t) g) ts) ≡ replicate (how_many g (map degrees ts)) (pos (10 ^ g))
kept_weights g [] = refl
kept_weights g (t ∷ ts) = by (nat_eq (degrees t) g) refl (kept_weights g ts)
  where
    kept : List (List Plain)
    kept = filter (λ t. nat_eq (degrees t) g) ts

    by : (b : Bool) → nat_eq (degrees t) g ≡ b → map weight_of kept ≡ replicate (how_many g (map degrees ts)) (pos (10 ^ g)) →
        map weight_of (cond (nat_eq (degrees t) g) (t ∷ kept) kept)
        ≡ replicate (cond (nat_eq (degrees t) g) (suc (how_many g (map degrees ts))) (how_many g (map degrees ts))) (pos (10 ^ g))
    by true e more =
        (λ i. map weight_of (cond (e i) (t ∷ kept) kept)) ∙ (λ i. pos (10 ^ eqb-true (degrees t) g e i) ∷ more i)
        ∙ (λ i. replicate (cond (sym e i) (suc (how_many g (map degrees ts))) (how_many g (map degrees ts))) (pos (10 ^ g)))
    by false e more =
        (λ i. map weight_of (cond (e i) (t ∷ kept) kept)) ∙ more
        ∙ (λ i. replicate (cond (sym e i) (suc (how_many g (map degrees ts))) (how_many g (map degrees ts))) (pos (10 ^ g)))

-- those of one degree
pub exact_weights : (As : List Type') (g d : ℕ) → g ≤ d → replicate (how_many g (map degrees (tuples_up_to As d))) (pos (10 ^ g)) ≡ map weight_of (exactly As g)
exact_weights As g d low = sym (kept_weights g (tuples_up_to As d)) ∙ ap (map weight_of) (of_degree As g d low)

-- those of the degrees from this one on
abbrev pub weights_from : List Type' → ℕ → ℕ → List ℤ
weights_from As n g = map weight_of (each_degree As n g)

pub one_degree_more : (As : List Type') (n g : ℕ) → weights_from As (suc n) g ≡ map weight_of (exactly As g) ++ weights_from As n (1 + g)
one_degree_more As n g = map-append weight_of (exactly As g) (each_degree As n (1 + g))

pub all_weights : (As : List Type') (d : ℕ) → weights_from As (1 + d) 0 ≡ map weight_of (index_list As d)
all_weights As d = ap (map weight_of) (sym (by_degrees As d))
