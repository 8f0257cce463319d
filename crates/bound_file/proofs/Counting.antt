-- The numbers of terms are read where they are in range.
use Rattle.std.proofs.Common.{◌≡◌, ◌<◌, ◌^◌, ℕ, Bool, true, false, cond, List, [], ◌∷◌, map, Option, Some, None, refl, sym, ap, ◌∙◌, arith}
use Rattle.std.proofs.lemmas.Bool.Decides.{nat_tests}
use Rattle.std.specs.Prelude.{nat_lt, ◌&&◌}
use Rattle.bound_file.specs.Spelling.{Term}
use Rattle.bound_file.specs.Declares.{numerator_of, denominator_of, InRange, AllInRange}
use Rattle.bound_file.specs.Reading.{Counted, in_range, with_numbers, counted, with_counted, all_counted}

in_told : (n : ℕ) → 0 < n → n < 2 ^ 127 → in_range n ≡ Some n
in_told n some fits = ap (λ b. cond b (Some n) None) (test some fits)
  where
    test : 0 < n → n < 2 ^ 127 → (nat_lt 0 n && nat_lt n (2 ^ 127)) ≡ true
    test a b = grind (arith, nat_tests, a, b)

record IsInRange (n m : ℕ) : Type 0 where
  same : m ≡ n
  some : 0 < n
  fits : n < 2 ^ 127

in_is : (n m : ℕ) → in_range n ≡ Some m → IsInRange n m
in_is n m e = at (nat_lt 0 n) (nat_lt n (2 ^ 127)) (λ q. grind (arith, nat_tests, q)) (λ q. grind (arith, nat_tests, q)) e
  where
    at : (a b : Bool) → (a ≡ true → 0 < n) → (b ≡ true → n < 2 ^ 127) → cond (a && b) (Some n) None ≡ Some m → IsInRange n m
    at true true f g e = let q : n ≡ m = cc in record { same = sym q; some = f refl; fits = g refl }
    at true false f g e = absurd (cc)
    at false b f g e = absurd (cc)

abbrev pub counted_as : Term → Counted
counted_as t = record { tuple = t.tuple; numerator = numerator_of t; denominator = denominator_of t }

counted_told : (t : Term) → InRange t → counted t ≡ Some (counted_as t)
counted_told t h = λ i. with_numbers t.tuple (in_told (numerator_of t) h.some h.fits i) (in_told (denominator_of t) h.over_some h.over_fits i)

record IsCounted (t : Term) (c : Counted) : Type 0 where
  same : c ≡ counted_as t
  range : InRange t

counted_is : (t : Term) (c : Counted) → counted t ≡ Some c → IsCounted t c
counted_is t c e = at (in_range (numerator_of t)) (in_range (denominator_of t)) (in_is (numerator_of t)) (in_is (denominator_of t)) e
  where
    at : (o p : Option ℕ) → ((n : ℕ) → o ≡ Some n → IsInRange (numerator_of t) n) → ((n : ℕ) → p ≡ Some n → IsInRange (denominator_of t) n) → with_numbers t.tuple o p ≡ Some c → IsCounted t c
    at (Some n) (Some m) f g e =
        let q : record { tuple = t.tuple; numerator = n; denominator = m } ≡ c = cc in
        let h = f n refl in
        let k = g m refl in
        record {
          same = sym q ∙ (λ i. record { tuple = t.tuple; numerator = h.same i; denominator = k.same i });
          range = record { some = h.some; fits = h.fits; over_some = k.some; over_fits = k.fits };
        }
    at (Some n) None f g e = absurd (cc)
    at None p f g e = absurd (cc)

pub all_told : (ts : List Term) → AllInRange ts → all_counted ts ≡ Some (map counted_as ts)
all_told [] h = refl
all_told (t ∷ ts) h = λ i. with_counted (counted_told t h.0 i) (all_told ts h.1 i)

pub record AreCounted (ts : List Term) (cs : List Counted) : Type 0 where
  pub same : cs ≡ map counted_as ts
  pub range : AllInRange ts

pub all_are : (ts : List Term) (cs : List Counted) → all_counted ts ≡ Some cs → AreCounted ts cs
all_are [] cs e = let q : [] ≡ cs = cc in record { same = sym q; range = tt }
all_are (t ∷ ts) cs e = at (counted t) (counted_is t) (all_counted ts) (all_are ts) e
  where
    at : (o : Option Counted) → ((c : Counted) → o ≡ Some c → IsCounted t c) → (p : Option (List Counted)) → ((cs : List Counted) → p ≡ Some cs → AreCounted ts cs) → with_counted o p ≡ Some cs → AreCounted (t ∷ ts) cs
    at (Some c) f (Some ds) g e =
        let q : c ∷ ds ≡ cs = cc in
        let h = f c refl in
        let k = g ds refl in
        record { same = sym q ∙ (λ i. h.same i ∷ k.same i); range = (h.range, k.range) }
    at (Some c) f None g e = absurd (cc)
    at None f p g e = absurd (cc)
