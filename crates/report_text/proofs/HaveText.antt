-- Terms put in order, and the text of a polynomial.
use Rattle.std.proofs.Common.{◌≡◌, ◌+◌, ◌==◌, zero, suc, Bool, true, false, cond, not, filter, List, [], ◌∷◌, refl, ap, ◌∙◌, arith}
use Rattle.std.specs.declared.cmp.Ordering.{Ordering}
use Rattle.std.specs.declared.cmp.Ordering.TheVariants.{Less, Equal, Greater}
use Rattle.std.specs.Ordering.{ordering_reverse, is_lt}
use Rattle.std.specs.List.Sorted.{IsSortedByKey, IsPermutation}
use Rattle.std.proofs.lemmas.List.Sorted.{IsPermutation-refl, IsPermutation-cons, IsPermutation-middle, IsPermutation-trans}
use Rattle.base_poly.specs.Indices.{tuple_order}
use Rattle.base_poly.specs.Poly.{Term, den_of, terms_of}
use Rattle.base_poly.specs.Total.{tuple_total}
use Rattle.poly_text.proofs.OneText.{polynomials_have_one_text}
use Rattle.report_text.specs.Polynomial.{put, in_order, polynomial_text, PolynomialsHaveThisText}

-- the tuple of the second is not less than that of the first
abbrev NotLess : Term → Term → Type 0
NotLess t u = is_lt (tuple_order u.0 t.0) ≡ false

-- the first of these is not less than the term
abbrev IsUnder : Term → List Term → Type 0
IsUnder t [] = Unit {0}
IsUnder t (u ∷ us) = NotLess t u

abbrev Rises : List Term → Type 0
Rises [] = Unit {0}
Rises (t ∷ ts) = IsUnder t ts × Rises ts

sorted : (ts : List Term) → Rises ts → IsSortedByKey (λ t. t.0) tuple_order ts
sorted [] h k d low high = absurd (omega (arith, high))
sorted (t ∷ []) h k d low high = absurd (omega (arith, high))
sorted (t ∷ u ∷ ts) h zero d low high = h.0
sorted (t ∷ u ∷ ts) h (suc k) d low high =
    let e : suc k + 1 ≡ suc (k + 1) = omega arith in
    rw e (sorted (u ∷ ts) h.1 k d (omega arith) (omega (arith, high)))

-- what is less is not greater
not_back : (t u : Term) → is_lt (tuple_order u.0 t.0) ≡ true → NotLess u t
not_back t u h = at (tuple_order u.0 t.0) refl h
  where
    at : (o : Ordering) → tuple_order u.0 t.0 ≡ o → is_lt o ≡ true → NotLess u t
    at Less e g = ap is_lt (tuple_total.antisymm t.0 u.0 ∙ ap ordering_reverse e)
    at Equal e g = cc
    at Greater e g = cc

under_put : (s t : Term) (us : List Term) → NotLess s t → IsUnder s us → IsUnder s (put t us)
under_put s t [] h g = h
under_put s t (u ∷ us) h g = at (is_lt (tuple_order u.0 t.0))
  where
    at : (b : Bool) → IsUnder s (cond b (u ∷ put t us) (t ∷ u ∷ us))
    at true = g
    at false = h

put_rises : (t : Term) (us : List Term) → Rises us → Rises (put t us)
put_rises t [] h = (tt, tt)
put_rises t (u ∷ us) h = at (is_lt (tuple_order u.0 t.0)) refl (put_rises t us h.1)
  where
    at : (b : Bool) → is_lt (tuple_order u.0 t.0) ≡ b → Rises (put t us) → Rises (cond b (u ∷ put t us) (t ∷ u ∷ us))
    at true e more = (under_put u t us (not_back t u e) h.0, more)
    at false e more = (e, h)

in_order_rises : (ts : List Term) → Rises (in_order ts)
in_order_rises [] = tt
in_order_rises (t ∷ ts) = put_rises t (in_order ts) (in_order_rises ts)

put_same : (t : Term) (us : List Term) → IsPermutation (t ∷ us) (put t us)
put_same t [] = IsPermutation-refl (t ∷ [])
put_same t (u ∷ us) = at (is_lt (tuple_order u.0 t.0)) (put_same t us)
  where
    at : (b : Bool) → IsPermutation (t ∷ us) (put t us) → IsPermutation (t ∷ u ∷ us) (cond b (u ∷ put t us) (t ∷ u ∷ us))
    at true same = IsPermutation-trans (t ∷ u ∷ us) (u ∷ t ∷ us) (u ∷ put t us) (IsPermutation-middle (t ∷ []) u us) (IsPermutation-cons u (t ∷ us) (put t us) same)
    at false same = IsPermutation-refl (t ∷ u ∷ us)

in_order_same : (ts : List Term) → IsPermutation ts (in_order ts)
in_order_same [] = IsPermutation-refl []
in_order_same (t ∷ ts) =
    IsPermutation-trans (t ∷ ts) (t ∷ in_order ts) (put t (in_order ts)) (IsPermutation-cons t ts (in_order ts) (in_order_same ts)) (put_same t (in_order ts))

pub polynomials_have_this_text : PolynomialsHaveThisText
polynomials_have_this_text p text poly h =
    let terms = filter (λ (t : Term). not (t.1 == 0)) (terms_of p) in
    polynomials_have_one_text p text (polynomial_text (den_of p) (terms_of p)) poly h (record {
      ordered = in_order terms;
      same = in_order_same terms;
      sorted = sorted (in_order terms) (in_order_rises terms);
      is = refl;
    })
