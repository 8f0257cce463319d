-- Terms in the order of their tuples.
use Rattle.std.proofs.Common.{◌≡◌, ◌<◌, ◌+◌, ◌^◌, ◌==◌, false, not, filter, ℤ, List, [], ◌∷◌, ◌++◌, All, codes, refl, sym, ap, ◌∙◌, arith, slice_index_or}
use Rattle.std.specs.declared.cmp.Ordering.{Ordering}
use Rattle.std.specs.declared.cmp.Ordering.TheVariants.{Less, Equal, Greater}
use Rattle.std.specs.Ordering.{ordering_then, nat_cmp, is_lt}
use Rattle.std.specs.List.Sorted.{IsSorted, IsSortedByKey, IsPermutation}
use Rattle.std.proofs.lemmas.List.Sorted.{All-permutation}
use Rattle.std.specs.Prelude.{unsigned_abs}
use Rattle.std.proofs.lemmas.List.Elements.{All-map, All-filter}
use Rattle.base_poly.specs.Plain.{Plain, many, degrees}
use Rattle.base_poly.specs.Indices.{capped_order, tuple_order}
use Rattle.base_poly.specs.Poly.{Term, magnitudes}
use Rattle.base_poly.proofs.Capped.{tuples_are_ordered}
use Rattle.poly_text.specs.Text.{index_text, entries_text}

-- as terms are sorted
abbrev pub term_order : Term → Term → Ordering
term_order t u = ordering_then (capped_order t.0 u.0) (nat_cmp t.1 u.1)

first_decides : (o p : Ordering) → is_lt (ordering_then o p) ≡ false → is_lt o ≡ false
first_decides Less p h = h
first_decides Equal p h = refl
first_decides Greater p h = refl

pub sorted_terms : (ts : List Term) → All (λ t. degrees t.0 < 2 ^ 32) ts → IsSorted term_order ts → IsSortedByKey (λ t. t.0) tuple_order ts
sorted_terms ts small h k d low high =
    let t = slice_index_or ts (k + 1) d in
    let u = slice_index_or ts k d in
    ap is_lt (sym (tuples_are_ordered t.0 u.0 (small (k + 1) d high) (small k d (omega (arith, high))))) ∙ first_decides (capped_order t.0 u.0) (nat_cmp t.1 u.1) (h k d low high)

-- the terms that are not zero, in any order, have no greater degrees
pub small_terms : (ts : List (List Plain × ℤ)) (us : List Term) → IsPermutation (filter (λ t. not (t.1 == 0)) (magnitudes ts)) us →
    All (λ t. degrees t.0 < 2 ^ 32) ts → All (λ t. degrees t.0 < 2 ^ 32) us
small_terms ts us same h =
    All-permutation (λ t. degrees t.0 < 2 ^ 32) _ us same
    (All-filter (λ (t : Term). not (t.1 == 0)) (λ t. degrees t.0 < 2 ^ 32) (magnitudes ts) (All-map (λ t. degrees t.0 < 2 ^ 32) (λ t. (t.0, unsigned_abs t.1)) ts h))

pub bracketed : (is : List Plain) → index_text (many is) ≡ codes "[" ++ (entries_text (many is) ++ codes "]")
bracketed [] = refl
bracketed (i ∷ is) = refl
