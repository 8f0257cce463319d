-- Of tuples in order, a later one is another one.
use Rattle.std.proofs.Common.{◌≡◌, ◌<◌, ℕ, zero, suc, Bool, true, false, List, [], ◌∷◌, length, refl, sym, ap, ◌∙◌, arith}
use Rattle.std.specs.Prelude.{slice_index_or}
use Rattle.std.specs.declared.cmp.Ordering.TheVariants.{Less, Greater}
use Rattle.std.specs.Ordering.{ordering_reverse}
use Rattle.base_poly.specs.Plain.{Plain, alike}
use Rattle.base_poly.specs.Indices.{IsBefore, Ascends, tuple_order}
use Rattle.base_poly.specs.Total.{tuple_total, alike_is}

-- within the list, what stands at a place is the same for each item that stands for none
pub same_at : {X : Type 0} (xs : List X) (k : ℕ) (d e : X) → k < length xs → slice_index_or xs k d ≡ slice_index_or xs k e
same_at [] k d e l = absurd (omega (arith, l))
same_at (x ∷ xs) zero d e l = refl
same_at (x ∷ xs) (suc k) d e l = same_at xs k d e (omega (arith, l))

before_at : (t : List Plain) (ts : List (List Plain)) → IsBefore tuple_order t ts → (k : ℕ) → k < length ts → tuple_order t (slice_index_or ts k []) ≡ Less
before_at t [] h k l = absurd (omega (arith, l))
before_at t (u ∷ ts) h zero l = h.0
before_at t (u ∷ ts) h (suc k) l = before_at t ts h.1 k (omega (arith, l))

pub ordered : (ts : List (List Plain)) → Ascends tuple_order ts → (j k : ℕ) → j < k → k < length ts → tuple_order (slice_index_or ts j []) (slice_index_or ts k []) ≡ Less
ordered [] h j k l m = absurd (omega (arith, m))
ordered (t ∷ ts) h j zero l m = absurd (omega (arith, l))
ordered (t ∷ ts) h zero (suc k) l m = before_at t ts h.0 k (omega (arith, m))
ordered (t ∷ ts) h (suc j) (suc k) l m = ordered ts h.1 j k (omega (arith, l)) (omega (arith, m))

pub differ : (t u : List Plain) → tuple_order t u ≡ Less → alike t u ≡ false
differ t u less = by (alike t u) refl
  where
    never : tuple_order t t ≡ Less → ⊥
    never e = let turned : Less ≡ Greater = sym e ∙ tuple_total.antisymm t t ∙ ap ordering_reverse e in cc

    by : (b : Bool) → alike t u ≡ b → alike t u ≡ false
    by true e = absurd (never (ap (tuple_order t) (alike_is t u e) ∙ less))
    by false e = e
