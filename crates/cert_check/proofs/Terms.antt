-- The terms of an annotation are those of a polynomial.
use Rattle.std.proofs.Common.{◌≡◌, ◌≤◌, ◌<◌, ◌^◌, ℕ, zero, suc, ℤ, pos, ◌≤ℤ◌, false, List, [], ◌∷◌, ◌++◌, ◌+◌, map, length, drop, drop-cons, append_assoc, All, refl, sym, ap, ◌∙◌, arith}
use Rattle.std.specs.Prelude.{slice_index_or, unsigned_abs}
use Rattle.std.specs.List.{AllByRecursion, IsDistinct}
use Rattle.std.proofs.lemmas.Int.{ints}
use Rattle.raml_syntax.specs.Tree.{Type'}
use Rattle.base_poly.specs.Plain.{Plain, degrees, alike}
use Rattle.base_poly.specs.Indices.{Ascends, tuple_order, index_list}
use Rattle.base_poly.specs.Poly.{magnitudes, AreTerms}
use Rattle.base_poly.proofs.Exact.{exact, each_listed}
use Rattle.base_poly.proofs.Ordered.{same_at, ordered, differ}
use Rattle.annot_types.specs.Certificate.{Entries, RiseFrom, Rise, Annotates}
use Rattle.annot_types.specs.Held.{terms_of}
use Rattle.rules_spec.specs.Stand.{Within}
use Rattle.cert_check.specs.Bound.{over}

pub are_within : (As : List Type') (d : ℕ) (es : Entries) → Annotates As d es → Within (length (index_list As d)) es
are_within As d [] h = tt
are_within As d (e ∷ es) h = (h.0, are_within As d es h.1)

pub within_at : (n : ℕ) (es : Entries) → Within n es → (k : ℕ) (e : ℕ × ℤ) → k < length es → (slice_index_or es k e).0 < n
within_at n [] h k e l = absurd (omega (arith, l))
within_at n (x ∷ es) h zero e l = h.0
within_at n (x ∷ es) h (suc k) e l = within_at n es h.1 k e (omega (arith, l))

pub terms_over : (As : List Type') (d : ℕ) (es : Entries) → magnitudes (over (index_list As d) es) ≡ terms_of As d es
terms_over As d [] = refl
terms_over As d (e ∷ es) = ap (λ ts. (slice_index_or (index_list As d) e.0 [], unsigned_abs e.1) ∷ ts) (terms_over As d es)

-- one term more
pub next_over : (ts : List (List Plain)) (es : Entries) (made now all : List (List Plain × ℤ)) (k : ℕ) (e : ℕ × ℤ) (t u : List Plain) → Within (length ts) es → k < length es →
    t ≡ slice_index_or ts (slice_index_or es k e).0 u → now ≡ made ++ (t, (slice_index_or es k e).1) ∷ [] → made ++ over ts (drop k es) ≡ all →
    now ++ over ts (drop (k + 1) es) ≡ all
next_over ts es made now all k e t u within l at is done =
    let here = at ∙ same_at ts (slice_index_or es k e).0 u [] (within_at (length ts) es within k e l) in
    ap (λ ms. ms ++ over ts (drop (k + 1) es)) is
    ∙ append_assoc made ((t, (slice_index_or es k e).1) ∷ []) (over ts (drop (k + 1) es))
    ∙ (λ i. made ++ (here i, (slice_index_or es k e).1) ∷ over ts (drop (k + 1) es))
    ∙ ap (λ rest. made ++ over ts rest) (sym first_left) ∙ done
  where
    next : suc k ≡ k + 1
    next = omega arith

    first_left : drop k es ≡ slice_index_or es k e ∷ drop (k + 1) es
    first_left = drop-cons es k e l ∙ (λ i. slice_index_or es k e ∷ drop (next i) es)

module _ (ts : List (List Plain)) where
  natural : (least : ℕ) (es : Entries) → RiseFrom least es → All (λ t. pos 0 ≤ℤ t.1) (over ts es)
  natural least [] h k d l = absurd (omega (arith, l))
  natural least (e ∷ es) h zero d l = let positive = h.1 in grind (arith, ints, positive)
  natural least (e ∷ es) h (suc k) d l = natural (suc e.0) es h.2 k d (omega (arith, l))

  low : (es : Entries) → Within (length ts) es → All (λ t. degrees t < 2 ^ 32) ts → All (λ t. degrees t.0 < 2 ^ 32) (over ts es)
  low [] h all k d l = absurd (omega (arith, l))
  low (e ∷ es) h all zero d l = all e.0 [] h.0
  low (e ∷ es) h all (suc k) d l = low es h.1 all k d (omega (arith, l))

  module _ (ascends : Ascends tuple_order ts) where
    apart : (k least : ℕ) (es : Entries) → k < least → RiseFrom least es → Within (length ts) es →
        AllByRecursion (λ u. alike (slice_index_or ts k []) u ≡ false) (map (λ t. t.0) (over ts es))
    apart k least [] l h g = tt
    apart k least (e ∷ es) l h g =
        let rises = h.0 in (
          differ (slice_index_or ts k []) (slice_index_or ts e.0 []) (ordered ts ascends k e.0 (omega (arith, l, rises)) g.0),
          apart k (suc e.0) es (omega (arith, l, rises)) h.2 g.1,
        )

    distinct : (least : ℕ) (es : Entries) → RiseFrom least es → Within (length ts) es → IsDistinct alike (map (λ t. t.0) (over ts es))
    unfolding IsDistinct
    distinct least [] h g = tt
    distinct least (e ∷ es) h g = (apart e.0 (suc e.0) es (omega arith) h.2 g.1, distinct (suc e.0) es h.2 g.1)

pub are_terms : (As : List Type') (d : ℕ) (es : Entries) → d ≤ 4 → Annotates As d es → Rise es → AreTerms (over (index_list As d) es)
are_terms As d es few h rise =
    let ts = index_list As d in
    let within = are_within As d es h in
    record {
      natural = natural ts 0 es rise;
      low = low ts es within (each_listed (λ t. degrees t < 2 ^ 32) As d (λ t is less. omega (arith, few, less)));
      distinct = distinct ts (exact As d).ascends 0 es rise within;
    }
