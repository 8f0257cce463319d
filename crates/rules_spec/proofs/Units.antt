-- Unit targets: the tuple of the target with number n stands at position n, at each budget that has so many tuples.
use Rattle.std.proofs.Common.{◌≡◌, ◌≤◌, ◌<◌, ℕ, zero, suc, ◌+◌, Bool, true, false, nat_eq, List, [], ◌∷◌, ◌++◌, map, length, position, slice_get, slice_index_or, Some, refl, sym, ap, ◌∙◌, subst, arith}
use Rattle.std.proofs.lemmas.Option.{same_Some}
use Rattle.std.proofs.lemmas.Bool.{eq-eqb, eqb-true, false_from_ne_true}
use Rattle.raml_syntax.specs.Tree.{Type'}
use Rattle.base_poly.specs.Plain.{Plain, alike}
use Rattle.base_poly.specs.Indices.{index_list}
use Rattle.base_poly.specs.Total.{alike_is, alike_self}
use Rattle.base_poly.proofs.Exact.{exact}
use Rattle.base_poly.proofs.Front.{lower_stand_first}
use Rattle.index_shift.proofs.Spots.{position_there}
use Rattle.cost_free.specs.Target.{Target, targets, joined_targets}

-- The target of a number that is less than that of the tuples has the tuple that stands there.
pub unit_is : (A : Type') (d n : ℕ) → n < length (index_list (A ∷ []) d) → slice_get (targets A d) n ≡ Some (slice_index_or (index_list (A ∷ []) d) n [] ∷ [])
unit_is A d n l = first (index_list (A ∷ []) d) (joined_targets A d) n l
  where
    first : (ts : List (List Plain)) (more : List Target) (n : ℕ) → n < length ts → slice_get (map (λ t. t ∷ []) ts ++ more) n ≡ Some (slice_index_or ts n [] ∷ [])
    first [] more n l = absurd (omega (arith, l))
    first (t ∷ ts) more zero l = refl
    first (t ∷ ts) more (suc n) l = first ts more n (omega (arith, l))

front : {X : Type 0} (xs ys : List X) (k : ℕ) (d : X) → k < length xs → slice_get (xs ++ ys) k ≡ Some (slice_index_or xs k d)
front [] ys k d l = absurd (omega (arith, l))
front (x ∷ xs) ys zero d l = refl
front (x ∷ xs) ys (suc k) d l = front xs ys k d (omega (arith, l))

module _ (As : List Type') where
  -- the k-th tuple of a lower degree is the k-th tuple of a higher one
  higher : (low high k : ℕ) → low ≤ high → k < length (index_list As low) → slice_get (index_list As high) k ≡ Some (slice_index_or (index_list As low) k [])
  higher low high k le l =
      let more = lower_stand_first As low high le in
      subst (λ ts. slice_get ts k ≡ Some (slice_index_or (index_list As low) k [])) (sym more.1) (front (index_list As low) more.0 k [] l)

  -- The k-th tuple at one degree is the n-th at another exactly where k is n.
  pub same_place : (b d k n : ℕ) → k < length (index_list As b) → n < length (index_list As d) →
      alike (slice_index_or (index_list As b) k []) (slice_index_or (index_list As d) n []) ≡ nat_eq k n
  same_place b d k n l m = by (nat_eq k n) refl
    where
      all : List (List Plain)
      all = index_list As (b + d)

      u : List Plain
      u = slice_index_or (index_list As b) k []

      t : List Plain
      t = slice_index_or (index_list As d) n []

      at_k : slice_get all k ≡ Some u
      at_k = higher b (b + d) k (omega arith) l

      at_n : slice_get all n ≡ Some t
      at_n = higher d (b + d) n (omega arith) m

      place : u ≡ t → k ≡ n
      place e =
          let up = (exact As (b + d)).ascends in
          same_Some k n (sym (position_there all k u up at_k) ∙ ap (λ v. position (alike v) all) e ∙ position_there all n t up at_n)

      by : (c : Bool) → nat_eq k n ≡ c → alike u t ≡ c
      by true e = let one : u ≡ t = same_Some u t (sym at_k ∙ ap (slice_get all) (eqb-true k n e) ∙ at_n) in ap (alike u) (sym one) ∙ alike_self u
      by false e = false_from_ne_true (alike u t) (λ same. absurd (clash (sym e ∙ eq-eqb k n (place (alike_is u t same)))))
        where
          clash : false ≡ true → ⊥
          clash q = cc
