-- The tests of a comparison decide what it defines.
use Rattle.std.proofs.Common.{◌≡◌, ◌≤◌, ◌*◌, ℕ, Bool, true, false, cond, Some, List, [], ◌∷◌, refl, sym, subst, arith, unwrap_or}
use Rattle.std.specs.Prelude.{nat_le}
use Rattle.std.specs.Bool.{Decides}
use Rattle.std.specs.List.{IsDistinct}
use Rattle.std.specs.Map.{keys_of}
use Rattle.std.proofs.lemmas.Map.Keys.{IsDistinct-tail}
use Rattle.std.proofs.lemmas.Bool.{and_from, and_parts, leb-true, le-leb}
use Rattle.base_poly.specs.Plain.{Plain, alike}
use Rattle.base_poly.specs.Poly.{Term, den_of, terms_of, IsPoly}
use Rattle.base_poly.specs.declared.tuple.Poly.{Poly}
use Rattle.base_poly.specs.Total.{alike_is}
use Rattle.bound_compare.specs.Compare.{Sum, sum_of, term_at, number_at, AtMost, AllEqual, Stands}
use Rattle.bound_compare.specs.Tests.{relation_of, all_at_most, relation_between}
use Rattle.bound_compare.specs.Laws.{RelationsAreOne, RelationIsFound}
use Rattle.bound_compare.specs.declared.relation.Relation.{Relation}
use Rattle.bound_compare.specs.declared.relation.Relation.TheVariants.{Equal, Below, Above, Mixed}
use Rattle.bound_compare.proofs.Numbers.{same_keys, term_at_head, others_at_most}

module _ (d : ℕ) (us : List Term) (e : ℕ) where
  -- the test holds of each term, and so of each tuple's number
  from_test : (ts : List Term) → all_at_most ts d us e ≡ true → (t : List Plain) → number_at t ts * e ≤ number_at t us * d
  from_test [] h t = omega arith
  from_test (x ∷ ts) h t =
      let now = and_parts (nat_le (x.1 * e) (number_at x.0 us * d)) (all_at_most ts d us e) h in
      at (leb-true (x.1 * e) (number_at x.0 us * d) now.0) (from_test ts now.1 t) (alike t x.0) refl
    where
      at : x.1 * e ≤ number_at x.0 us * d → number_at t ts * e ≤ number_at t us * d → (b : Bool) → alike t x.0 ≡ b → unwrap_or (cond b (Some x.1) (term_at t ts)) 0 * e ≤ number_at t us * d
      at now more true q = subst (λ k. x.1 * e ≤ number_at k us * d) (sym (alike_is t x.0 q)) now
      at now more false q = more

  -- where tuples are distinct, each term has its tuple's number
  to_test : (ts : List Term) → IsDistinct alike (keys_of ts) → ((t : List Plain) → number_at t ts * e ≤ number_at t us * d) → all_at_most ts d us e ≡ true
  to_test [] apart h = refl
  to_test (x ∷ ts) apart h =
      and_from (nat_le (x.1 * e) (number_at x.0 us * d)) (all_at_most ts d us e)
      (le-leb (x.1 * e) (number_at x.0 us * d) (subst (λ n. n * e ≤ number_at x.0 us * d) (term_at_head x ts) (h x.0)))
      (to_test ts (IsDistinct-tail alike x.0 (keys_of ts) apart) (others_at_most x ts (λ t. number_at t us * d) e apart h))

pub at_most_decided : (p q : Sum) → IsDistinct alike (keys_of p.terms) → Decides (all_at_most p.terms p.den q.terms q.den) (AtMost p q)
at_most_decided p q apart = (λ h t. from_test p.den q.terms q.den p.terms h t, λ h. to_test p.den q.terms q.den p.terms apart h)

-- The relation

module _ (p q : Sum) where
  equal_both : AtMost p q → AtMost q p → AllEqual p q
  equal_both a b t = let x = a t in let y = b t in omega (arith, x, y)

  most_equal : AllEqual p q → AtMost p q
  most_equal h t = let x = h t in omega (arith, x)

  least_equal : AllEqual p q → AtMost q p
  least_equal h t = let x = h t in omega (arith, x)

equal_back : (p q : Sum) → AllEqual q p → AllEqual p q
equal_back p q h t = sym (h t)

pub stands : (p q : Sum) (a b : Bool) → Decides a (AtMost p q) → Decides b (AtMost q p) → Stands (relation_of a b) p q
stands p q true true f g = equal_both p q (f.0 refl) (g.0 refl)
stands p q true false f g = (f.0 refl, λ h. no (g.1 (least_equal p q h)))
  where
    no : false ≡ true → ⊥
    no e = cc
stands p q false true f g = (g.0 refl, λ h. no (f.1 (least_equal q p h)))
  where
    no : false ≡ true → ⊥
    no e = cc
stands p q false false f g = (λ h. no (f.1 (most_equal p q h)), λ h. no (f.1 h.0), λ h. no (g.1 h.0))
  where
    no : false ≡ true → ⊥
    no e = cc

pub relations_are_one : RelationsAreOne
relations_are_one p q Equal Equal h g = refl
relations_are_one p q Equal Below h g = absurd (g.1 h)
relations_are_one p q Equal Above h g = absurd (g.1 (equal_back q p h))
relations_are_one p q Equal Mixed h g = absurd (g.0 h)
relations_are_one p q Below Equal h g = absurd (h.1 g)
relations_are_one p q Below Below h g = refl
relations_are_one p q Below Above h g = absurd (h.1 (equal_both p q h.0 g.0))
relations_are_one p q Below Mixed h g = absurd (g.1 h)
relations_are_one p q Above Equal h g = absurd (h.1 (equal_back q p g))
relations_are_one p q Above Below h g = absurd (g.1 (equal_both p q g.0 h.0))
relations_are_one p q Above Above h g = refl
relations_are_one p q Above Mixed h g = absurd (g.2 h)
relations_are_one p q Mixed Equal h g = absurd (h.0 g)
relations_are_one p q Mixed Below h g = absurd (h.1 g)
relations_are_one p q Mixed Above h g = absurd (h.2 g)
relations_are_one p q Mixed Mixed h g = refl

pub relation_is_found : RelationIsFound
relation_is_found p q f g =
    stands (sum_of p) (sum_of q)
    (all_at_most (terms_of p) (den_of p) (terms_of q) (den_of q)) (all_at_most (terms_of q) (den_of q) (terms_of p) (den_of p))
    (at_most_decided (sum_of p) (sum_of q) (subst (IsDistinct alike) (same_keys p.terms.items) f.terms.distinct))
    (at_most_decided (sum_of q) (sum_of p) (subst (IsDistinct alike) (same_keys q.terms.items) g.terms.distinct))

-- what stands is found
pub found : (p q : Poly) (r : Relation) → IsPoly p → IsPoly q → Stands r (sum_of p) (sum_of q) → r ≡ relation_between (sum_of p) (sum_of q)
found p q r f g h = relations_are_one (sum_of p) (sum_of q) r (relation_between (sum_of p) (sum_of q)) h (relation_is_found p q f g)
