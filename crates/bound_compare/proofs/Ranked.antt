-- The order of exponents is that of the tuples that pick so many elements.
use Rattle.std.proofs.Common.{◌≡◌, ◌<◌, ◌+◌, ℕ, zero, suc, List, [], ◌∷◌, map, refl, sym, ◌∙◌, arith}
use Rattle.std.specs.Prelude.{sum}
use Rattle.std.specs.declared.cmp.Ordering.{Ordering}
use Rattle.std.specs.declared.cmp.Ordering.TheVariants.{Less, Equal, Greater}
use Rattle.std.specs.Ordering.{ordering_then, nat_cmp, MatchOrdering}
use Rattle.std.specs.Cmp.Lexicographic.{slice_cmp}
use Rattle.std.specs.Cmp.{ranks, nat_cmp_is}
use Rattle.std.proofs.lemmas.List.Sums.{sum_by-cons}
use Rattle.base_poly.specs.Plain.{deg, degrees, order}
use Rattle.base_poly.specs.Indices.{each_in_turn}
use Rattle.bound_compare.specs.Laws.{picks, ExponentsAreOrdered}

pub degree_picks : (n : ℕ) → deg (picks n) ≡ n
degree_picks zero = refl
degree_picks (suc n) = let more = degree_picks n in omega (arith, more)

pub degrees_picks : (es : List ℕ) → degrees (map picks es) ≡ sum es
degrees_picks [] = refl
degrees_picks (e ∷ es) = (λ i. degree_picks e i + degrees_picks es i) ∙ sym (sum_by-cons (λ x. x) e es)

order_picks : (m n : ℕ) → order (picks m) (picks n) ≡ nat_cmp m n
order_picks zero zero = refl
order_picks zero (suc n) = nat_cmp_is zero (suc n) Less (omega arith)
order_picks (suc m) zero = nat_cmp_is (suc m) zero Greater (omega arith)
order_picks (suc m) (suc n) = order_picks m n ∙ nat_cmp_is (suc m) (suc n) (nat_cmp m n) (at (nat_cmp m n) (ranks m n))
  where
    at : (o : Ordering) → MatchOrdering o (m < n) (m ≡ n) (n < m) → MatchOrdering o (suc m < suc n) (suc m ≡ suc n) (suc n < suc m)
    at Less h = omega (arith, h)
    at Equal h = omega (arith, h)
    at Greater h = omega (arith, h)

each_picks : (es fs : List ℕ) → each_in_turn (map picks es) (map picks fs) ≡ slice_cmp nat_cmp es fs
each_picks [] [] = refl
each_picks [] (f ∷ fs) = refl
each_picks (e ∷ es) [] = refl
each_picks (e ∷ es) (f ∷ fs) = λ i. ordering_then (order_picks e f i) (each_picks es fs i)

pub exponents_are_ordered : ExponentsAreOrdered
exponents_are_ordered es fs = λ i. ordering_then (nat_cmp (sym (degrees_picks es) i) (sym (degrees_picks fs) i)) (sym (each_picks es fs) i)
