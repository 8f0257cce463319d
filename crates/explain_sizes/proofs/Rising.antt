-- Polynomials at greater sizes.
use Rattle.std.proofs.Common.{◌≤◌, ◌<◌, ℕ, suc, List, [], ◌∷◌, None, Some, arith}
use Rattle.std.proofs.Math.Nat.{le_trans, div-mul-le_self}
use Rattle.std.proofs.lemmas.Nat.{le-div}
use Rattle.base_poly.specs.Plain.{Plain, Unit', Pair, End, Then, NoEntry, OneEntry, entry_count}
use Rattle.base_poly.specs.Poly.{Term, den_of, terms_of}
use Rattle.base_poly.specs.declared.tuple.Poly.{Poly}
use Rattle.explain_sizes.specs.Sizes.{Sizes, NoSize, Parts, Content, Elements, IsAtMost, AreAtMost}
use Rattle.explain_sizes.specs.Counts.{counts, each_counts, tuple_counts, worth_at, whole_at}
use Rattle.explain_sizes.specs.Laws.{RisesWithSizes}
use Rattle.explain_sizes.specs.Open as o
use Rattle.explain_sizes.specs.Open.{OpenSizes, filled, all_filled, is_kept}
use Rattle.explain_sizes.proofs.Chosen.{choose_grows}
use Rattle.explain_sizes.proofs.Bounds.{no_more, products}

mutual
  rises : (i : Plain) (s u : Sizes) → IsAtMost s u → counts i s ≤ counts i u
  rises Unit' s u h = no_more 1
  rises (Pair i j) (Parts s t) (Parts u v) h = products _ _ _ _ (rises i s u h.0) (rises j t v h.1)
  rises End s u h = no_more 1
  rises (Then i r) (Elements m s) (Elements n u) h =
      products _ _ _ _ (choose_grows m n (suc (entry_count r)) h.0) (products _ _ _ _ (rises i s u h.1) (each_rises r s u h.1))
  rises NoEntry s u h = no_more 1
  rises (OneEntry i) (Content s) (Content u) h = rises i s u h
  rises (Pair i j) NoSize NoSize h = no_more 0
  rises (Pair i j) (Content s) (Content u) h = no_more 0
  rises (Pair i j) (Elements m s) (Elements n u) h = no_more 0
  rises (Then i r) NoSize NoSize h = no_more 0
  rises (Then i r) (Parts s t) (Parts u v) h = no_more 0
  rises (Then i r) (Content s) (Content u) h = no_more 0
  rises (OneEntry i) NoSize NoSize h = no_more 0
  rises (OneEntry i) (Parts s t) (Parts u v) h = no_more 0
  rises (OneEntry i) (Elements m s) (Elements n u) h = no_more 0
  rises i s u h = absurd h

  each_rises : (r : Plain) (s u : Sizes) → IsAtMost s u → each_counts r s ≤ each_counts r u
  each_rises (Then i r) s u h = products _ _ _ _ (rises i s u h) (each_rises r s u h)
  each_rises r s u h = no_more 1

tuple_rises : (is : List Plain) (ss us : List Sizes) → AreAtMost ss us → tuple_counts is ss ≤ tuple_counts is us
tuple_rises [] ss us h = no_more 1
tuple_rises (i ∷ is) (s ∷ ss) (u ∷ us) h = products _ _ _ _ (rises i s u h.0) (tuple_rises is ss us h.1)
tuple_rises (i ∷ is) [] [] h = no_more 0
tuple_rises (i ∷ is) [] (u ∷ us) h = absurd h
tuple_rises (i ∷ is) (s ∷ ss) [] h = absurd h

sum_rises : (ts : List Term) (ss us : List Sizes) → AreAtMost ss us → worth_at ts ss ≤ worth_at ts us
sum_rises [] ss us h = no_more 0
sum_rises (t ∷ ts) ss us h =
    let one = products t.1 t.1 _ _ (no_more t.1) (tuple_rises t.0 ss us h) in let more = sum_rises ts ss us h in omega (arith, one, more)

whole_rises : (p : Poly) (ss us : List Sizes) → 0 < den_of p → AreAtMost ss us → whole_at p ss ≤ whole_at p us
whole_rises p ss us some h = le-div _ _ (den_of p) some (le_trans (div-mul-le_self (worth_at (terms_of p) ss) (den_of p)) (sum_rises (terms_of p) ss us h))

pub rising : RisesWithSizes
rising = record { sum = sum_rises; whole = whole_rises }

-- A greater number at the open places gives greater sizes.

filled_rise : (m n : ℕ) → m ≤ n → (o : OpenSizes) → IsAtMost (filled m o) (filled n o)
filled_rise m n h o.NoSize = tt
filled_rise m n h (o.Parts a b) = (filled_rise m n h a, filled_rise m n h b)
filled_rise m n h (o.Content a) = filled_rise m n h a
filled_rise m n h (o.Elements None a) = (h, filled_rise m n h a)
filled_rise m n h (o.Elements (Some k) a) = (no_more k, filled_rise m n h a)

pub all_rise : (m n : ℕ) → m ≤ n → (os : List OpenSizes) → AreAtMost (all_filled m os) (all_filled n os)
all_rise m n h [] = tt
all_rise m n h (o ∷ os) = (filled_rise m n h o, all_rise m n h os)
