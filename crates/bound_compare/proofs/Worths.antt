-- Coefficients that are at most another polynomial's make values that are.
use Rattle.std.proofs.Common.{◌≡◌, ◌≤◌, ◌+◌, ◌*◌, ℕ, Bool, true, false, cond, Some, List, [], ◌∷◌, refl, sym, ◌∙◌, subst, arith, unwrap_or}
use Rattle.std.specs.List.{IsDistinct, AllByRecursion}
use Rattle.std.specs.Map.{keys_of}
use Rattle.std.proofs.Math.Nat.{mul-le-mul_left, mul-le-mul_right}
use Rattle.std.proofs.lemmas.Cmp.{eq_by_cmp_equiv}
use Rattle.std.proofs.lemmas.Map.Keys.{IsDistinct-head, IsDistinct-tail}
use Rattle.raml_syntax.specs.Value.{Value}
use Rattle.base_poly.specs.Plain.{Plain, many, alike}
use Rattle.base_poly.specs.Base.{total, bases}
use Rattle.base_poly.specs.Poly.{Term, terms_of, den_of, IsPoly}
use Rattle.base_poly.specs.declared.tuple.Poly.{Poly}
use Rattle.base_poly.specs.Total.{alike_is, order_total}
use Rattle.poly_point.specs.Point.{worth}
use Rattle.bound_compare.specs.Compare.{sum_of, term_at, number_at, AtMost}
use Rattle.bound_compare.specs.Laws.{RelationsPromise, WorthAtMost}
use Rattle.bound_compare.proofs.Numbers.{same_keys, term_at_head, others_at_most}

module _ (values : List Value) where
  -- what the tuples of the terms are worth by the numbers in others
  abbrev worth_by : List Term → List Term → ℕ
  worth_by us ts = total (λ t. number_at t.0 us * bases t.0 values) ts

  -- the number where the tuple is this term's
  abbrev only_at : Term → Term → ℕ
  only_at u t = cond (alike t.0 u.0) u.1 0 * bases t.0 values

  -- a term of the others that no tuple of these has adds nothing
  none_here : (u : Term) (ts : List Term) → AllByRecursion (λ k. alike u.0 k ≡ false) (keys_of ts) → total (only_at u) ts ≡ 0
  none_here u [] h = refl
  none_here u (t ∷ ts) h =
      let more = none_here u ts h.1 in
      let apart = flips t.0 u.0 ∙ h.0 in
      (λ n. cond (apart n) u.1 0 * bases t.0 values + more n) ∙ omega arith
    where
      flips : (x y : List Plain) → alike x y ≡ alike y x
      flips x y = (eq_by_cmp_equiv order_total).symm (many x) (many y)

  -- distinct tuples have it once at most
  once : (u : Term) (ts : List Term) → IsDistinct alike (keys_of ts) → total (only_at u) ts ≤ u.1 * bases u.0 values
  once u [] apart = omega arith
  once u (t ∷ ts) apart = at (once u ts (IsDistinct-tail alike t.0 (keys_of ts) apart)) (alike t.0 u.0) refl
    where
      at : total (only_at u) ts ≤ u.1 * bases u.0 values → (b : Bool) → alike t.0 u.0 ≡ b → cond b u.1 0 * bases t.0 values + total (only_at u) ts ≤ u.1 * bases u.0 values
      at later true e =
          let same = alike_is t.0 u.0 e in
          let none = none_here u ts (subst (λ k. AllByRecursion (λ y. alike k y ≡ false) (keys_of ts)) same (IsDistinct-head alike t.0 (keys_of ts) apart)) in
          subst (λ k. u.1 * bases k values + total (only_at u) ts ≤ u.1 * bases u.0 values) (sym same) (omega (arith, none))
      at later false e = omega (arith, later)

  -- so distinct tuples are worth no more by the others' numbers than the others are
  by_others : (us ts : List Term) → IsDistinct alike (keys_of ts) → worth_by us ts ≤ worth us values
  by_others [] ts apart = let none = nothing ts in omega (arith, none)
    where
      nothing : (xs : List Term) → worth_by [] xs ≡ 0
      nothing [] = refl
      nothing (x ∷ xs) = let more = nothing xs in omega (arith, more)
  by_others (u ∷ us) ts apart =
      let first = once u ts apart in
      let more = by_others us ts apart in
      let parts = split ts in
      omega (arith, first, more, parts)
    where
      one : (t : Term) (b : Bool) → unwrap_or (cond b (Some u.1) (term_at t.0 us)) 0 * bases t.0 values ≤ cond b u.1 0 * bases t.0 values + number_at t.0 us * bases t.0 values
      one t true = omega arith
      one t false = omega arith

      split : (xs : List Term) → worth_by (u ∷ us) xs ≤ total (only_at u) xs + worth_by us xs
      split [] = omega arith
      split (x ∷ xs) = let now = one x (alike x.0 u.0) in let more = split xs in omega (arith, now, more)

  -- each term at most the tuple's number in the others
  each_at_most : (d : ℕ) (us : List Term) (e : ℕ) (ts : List Term) → IsDistinct alike (keys_of ts) → ((t : List Plain) → number_at t ts * e ≤ number_at t us * d) → worth ts values * e ≤ worth_by us ts * d
  each_at_most d us e [] apart h = omega arith
  each_at_most d us e (x ∷ ts) apart h =
      let now = subst (λ n. n * e ≤ number_at x.0 us * d) (term_at_head x ts) (h x.0) in
      let more = each_at_most d us e ts (IsDistinct-tail alike x.0 (keys_of ts) apart) (others_at_most x ts (λ t. number_at t us * d) e apart h) in
      step x.1 e (number_at x.0 us) d (bases x.0 values) (worth ts values) (worth_by us ts) now more
    where
      step : (n e m d b w v : ℕ) → n * e ≤ m * d → w * e ≤ v * d → (n * b + w) * e ≤ (m * b + v) * d
      step n e m d b w v f g = let scaled = scale b (n * e) (m * d) f in let left = regroup n b w e in let right = regroup m b v d in omega (arith, scaled, left, right, g)
        where
          scale : (b x y : ℕ) → x ≤ y → b * x ≤ b * y
          scale b x y l = mul-le-mul_left b l

          regroup : (n b w e : ℕ) → (n * b + w) * e ≡ b * (n * e) + w * e
          regroup n b w e = grind arith

worth_at_most : (p q : Poly) → IsPoly p → AtMost (sum_of p) (sum_of q) → (values : List Value) → WorthAtMost p q values
worth_at_most p q poly h values =
    let apart = subst (IsDistinct alike) (same_keys p.terms.items) poly.terms.distinct in
    let most = each_at_most values (den_of p) (terms_of q) (den_of q) (terms_of p) apart h in
    let others = by_others values (terms_of q) (terms_of p) apart in
    join (worth (terms_of p) values * den_of q) (worth_by values (terms_of q) (terms_of p)) (worth (terms_of q) values) (den_of p) most others
  where
    join : (a b c d : ℕ) → a ≤ b * d → b ≤ c → a ≤ c * d
    join a b c d f g = let scaled = mul-le-mul_right d g in omega (arith, f, scaled)

pub relations_promise : RelationsPromise
relations_promise = record {
  equal = λ p q first second h values. (worth_at_most p q first (λ t. let x = h t in omega (arith, x)) values, worth_at_most q p second (λ t. let x = h t in omega (arith, x)) values);
  below = λ p q first second h values. worth_at_most p q first h.0 values;
}
