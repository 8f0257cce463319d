-- Common multiples of lists.
use Rattle.std.proofs.Common.{rules, FitsSigned, ◌≡◌, ◌≤◌, ◌<◌, ◌+◌, ◌*◌, ◌/◌, ℕ, zero, suc, ℤ, pos, List, [], ◌∷◌, ◌++◌, map, take, length, slice_index_or, refl, sym, ap, ◌∙◌, subst, arith}
use Rattle.std.proofs.Math.Seq.{take-length}
use Rattle.std.proofs.lemmas.List.{length-map}
use Rattle.std.specs.Int.{w128}
use Rattle.std.proofs.lemmas.Nat.Gcd.{dvd_refl, dvd_trans, le_of_dvd}
use Rattle.std.proofs.Math.Nat.{one-dvd, dvd-mul_right, dvd-mul_left, eq-zero_of_zero-dvd}
use Prim.Native.Nat.{◌∣◌}
use Rattle.raml_num.specs.Divisors.{IsLcm, EachCommonMultipleLeaves}
use Rattle.raml_num.proofs.Dividing.{through}
use Rattle.raml_num.proofs.Multiples.{is_lcm}
use Rattle.frac128.specs.declared.Frac.{Frac}
use Rattle.frac128.specs.Values.{denominator}
use Rattle.simplex_integers.specs.Wholes.{most}
use Rattle.simplex_integers.specs.Denominators.{EachDivides, IsLcmOf, denominators, IsDenominator, DenominatorLeaves, over, all_over, NumberLeaves}
use Rattle.simplex_integers.specs.Next.{IsNext, NoNext, IsNumber}

-- One more

each_then : (ns : List ℕ) (n l m : ℕ) → EachDivides ns l → l ∣ m → n ∣ m → EachDivides (ns ++ n ∷ []) m
each_then [] n l m h p q = (q, tt)
each_then (k ∷ ns) n l m h p q = (dvd_trans k h.0 p, each_then ns n l m h.1 p q)

each_first : (ns : List ℕ) (n m : ℕ) → EachDivides (ns ++ n ∷ []) m → EachDivides ns m × (n ∣ m)
each_first [] n m h = (tt, h.0)
each_first (k ∷ ns) n m h = let rest = each_first ns n m h.1 in ((h.0, rest.0), rest.1)

lcm_none : IsLcmOf [] 1
lcm_none = record { positive = omega arith; each = tt; least = λ m h. one-dvd m }

lcm_more : (ns : List ℕ) (n l m : ℕ) → 0 < m → IsLcmOf ns l → IsLcm l n m → IsLcmOf (ns ++ n ∷ []) m
lcm_more ns n l m pm h k = record {
  positive = pm;
  each = each_then ns n l m h.each k.0 k.1;
  least = λ v g. let both = each_first ns n v g in k.2 v (h.least v both.0) both.1;
}

-- that of all is that of the first ones and the last
lcm_last : (ns : List ℕ) (n l m : ℕ) → IsLcmOf ns l → IsLcmOf (ns ++ n ∷ []) m → IsLcm l n m
lcm_last ns n l m h k = let both = each_first ns n m k.each in (h.least m both.0, both.1, λ v p q. k.least v (each_then ns n l v h.each p q))

-- Multiples that fit

pub none_fits : (a n : ℕ) → EachCommonMultipleLeaves a n → NoNext a n
none_fits a n h m pm k = let far = h m pm k.0 k.1 in omega (arith, far)

pub too_great : (a n m : ℕ) → IsLcm a n m → most ≤ m → NoNext a n
too_great a n m h big k pk j = let low = le_of_dvd pk (h.2 k j.0 j.1) in omega (arith, low, big)

positive_lcm : (a n m : ℕ) → 0 < a → 0 < n → IsLcm a n m → 0 < m
positive_lcm a n (suc m) pa pn h = omega arith
positive_lcm (suc a) (suc n) zero pa pn h = absurd (let e = eq-zero_of_zero-dvd (h.2 (suc a * suc n) (dvd-mul_right (suc a) (suc n)) (dvd-mul_left (suc n) (suc a))) in omega (arith, e))
positive_lcm zero n zero pa pn h = absurd (omega (arith, pa))
positive_lcm (suc a) zero zero pa pn h = absurd (omega (arith, pn))

pub is_next : (a n m : ℕ) → 0 < a → 0 < n → IsLcm a n m → m < most → IsNext a n m
is_next a n m pa pn h l = record { lcm = h; fits = l; positive = positive_lcm a n m pa pn h }

pub same_next : (a n : ℕ) → n ≡ 1 → 0 < a → a < most → IsNext a n a
same_next a n e p l = record { lcm = (dvd_refl a, subst (λ k. k ∣ a) (sym e) (one-dvd a), λ m h k. h); fits = l; positive = p }

-- Entry by entry

pub take_next : {X Y : Type 0} (f : X → Y) (xs : List X) (k : ℕ) (d : X) → k < length xs → take (suc k) (map f xs) ≡ take k (map f xs) ++ f (slice_index_or xs k d) ∷ []
take_next f [] k d l = absurd (omega (arith, l))
take_next f (x ∷ xs) zero d l = refl
take_next f (x ∷ xs) (suc k) d l = ap (λ ys. f x ∷ ys) (take_next f xs k d (omega (arith, l)))

-- there is a least common multiple of two positive numbers
some_lcm : (a n : ℕ) → 0 < n → (m : ℕ) × IsLcm a n m
some_lcm a n pn = let g = through (a + n) a n 1 1 (omega arith) (one-dvd (a * 1)) (one-dvd (n * 1)) in (a / g.0 * n, is_lcm a n g.0 pn g.1)

pub none_yet : (ns : List ℕ) → IsDenominator (take 0 ns) 1
none_yet ns = record { is = lcm_none; fits = omega arith }

take_last : (ns : List ℕ) (k : ℕ) → k < length ns → take (suc k) ns ≡ take k ns ++ slice_index_or ns k 0 ∷ []
take_last [] k l = absurd (omega (arith, l))
take_last (n ∷ ns) zero l = refl
take_last (n ∷ ns) (suc k) l = ap (λ es. n ∷ es) (take_last ns k (omega (arith, l)))

-- with an entry more there is a least common multiple
pub next_lcm : (fs : List Frac) (k l : ℕ) → k < length (denominators fs) → IsLcmOf (take k (denominators fs)) l → (m : ℕ) × IsLcmOf (take (suc k) (denominators fs)) m
next_lcm fs k l inside h =
    let n = slice_index_or (denominators fs) k 0 in
    let pn = den_positive fs k inside in
    let m = some_lcm l n pn in
    (m.0, subst (λ ns. IsLcmOf ns m.0) (sym (take_last (denominators fs) k inside)) (lcm_more (take k (denominators fs)) n l m.0 (positive_lcm l n m.0 h.positive pn m.1) h m.1))
  where
    den_positive : (fs : List Frac) (k : ℕ) → k < length (denominators fs) → 0 < slice_index_or (denominators fs) k 0
    den_positive [] k l = absurd (omega (arith, l))
    den_positive (f ∷ fs) zero l = f.lowest.positive
    den_positive (f ∷ fs) (suc k) l = den_positive fs k (omega (arith, l))

next_of : (k : ℕ) → suc k ≡ k + 1
next_of k = omega arith

pub one_more : (fs : List Frac) (k l m : ℕ) (d : Frac) → k < length fs → IsDenominator (take k (denominators fs)) l → IsNext l (denominator (slice_index_or fs k d)) m →
    IsDenominator (take (k + 1) (denominators fs)) m
one_more fs k l m d inside h n = subst (λ i. IsDenominator (take i (denominators fs)) m) (next_of k) (record {
  is = subst (λ ns. IsLcmOf ns m) (sym (take_next denominator fs k d inside)) (lcm_more (take k (denominators fs)) (denominator (slice_index_or fs k d)) l m n.positive h.is n.lcm);
  fits = n.fits;
})

pub leaves_at : (fs : List Frac) (k l : ℕ) (d : Frac) → k < length fs → IsDenominator (take k (denominators fs)) l → NoNext l (denominator (slice_index_or fs k d)) →
    DenominatorLeaves (denominators fs) k
leaves_at fs k l d inside h n = record {
  inside = (let c = length-map fs denominator in omega (arith, c, inside));
  before = l;
  is = h;
  leaves = λ m g. n m g.positive (lcm_last (take k (denominators fs)) (denominator (slice_index_or fs k d)) l m h.is (subst (λ ns. IsLcmOf ns m) (take_next denominator fs k d inside) g));
}

pub all_of : (fs : List Frac) (k l : ℕ) → k ≡ length fs → IsDenominator (take k (denominators fs)) l → IsDenominator (denominators fs) l
all_of fs k l e h = subst (λ ns. IsDenominator ns l) ((λ i. take ((e ∙ sym (length-map fs denominator)) i) (denominators fs)) ∙ take-length (denominators fs)) h

-- Numbers

pub number_more : (fs : List Frac) (l k : ℕ) (d : Frac) (zs : List ℤ) (z : ℤ) → k < length fs → zs ≡ map pos (take k (all_over l fs)) → z ≡ pos (over l (slice_index_or fs k d)) →
    zs ++ z ∷ [] ≡ map pos (take (k + 1) (all_over l fs))
number_more fs l k d zs z inside h e =
    (λ i. h i ++ e i ∷ []) ∙ sym (map_more (take k (all_over l fs)) (over l (slice_index_or fs k d)))
    ∙ ap (map pos) (sym (take_next (over l) fs k d inside)) ∙ (λ i. map pos (take (next_of k i) (all_over l fs)))
  where
    map_more : (xs : List ℕ) (x : ℕ) → map pos (xs ++ x ∷ []) ≡ map pos xs ++ pos x ∷ []
    map_more [] x = refl
    map_more (y ∷ xs) x = ap (λ zs. pos y ∷ zs) (map_more xs x)

index_next : (xs : List ℕ) (x i : ℕ) → x < most → ((i : ℕ) → slice_index_or xs i 0 < most) → slice_index_or (xs ++ x ∷ []) i 0 < most
index_next [] x zero l h = l
index_next [] x (suc i) l h = omega arith
index_next (y ∷ xs) x zero l h = h 0
index_next (y ∷ xs) x (suc i) l h = index_next xs x i l (λ i. h (suc i))

pub fits_more : (fs : List Frac) (l k : ℕ) (d : Frac) → k < length fs → ((i : ℕ) → slice_index_or (take k (all_over l fs)) i 0 < most) → over l (slice_index_or fs k d) < most →
    (i : ℕ) → slice_index_or (take (k + 1) (all_over l fs)) i 0 < most
fits_more fs l k d inside h low i =
    subst (λ n. slice_index_or (take n (all_over l fs)) i 0 < most) (next_of k)
    (subst (λ xs. slice_index_or xs i 0 < most) (sym (take_next (over l) fs k d inside)) (index_next (take k (all_over l fs)) (over l (slice_index_or fs k d)) i low h))

pub number_leaves : (fs : List Frac) (l k : ℕ) (d : Frac) → k < length fs → ((i : ℕ) → slice_index_or (take k (all_over l fs)) i 0 < most) → most ≤ over l (slice_index_or fs k d) →
    NumberLeaves l fs k
number_leaves fs l k d inside h high = record {
  inside = inside;
  leaves = subst (λ n. most ≤ n) (sym (mapped fs k inside)) high;
  before = λ i q. subst (λ n. n < most) (before (all_over l fs) k i q) (h i);
}
  where
    mapped : (fs : List Frac) (k : ℕ) → k < length fs → slice_index_or (all_over l fs) k 0 ≡ over l (slice_index_or fs k d)
    mapped [] k q = absurd (omega (arith, q))
    mapped (f ∷ fs) zero q = refl
    mapped (f ∷ fs) (suc k) q = mapped fs k (omega (arith, q))

    before : (xs : List ℕ) (k i : ℕ) → i < k → slice_index_or (take k xs) i 0 ≡ slice_index_or xs i 0
    before xs zero i q = absurd (omega (arith, q))
    before [] (suc k) i q = refl
    before (x ∷ xs) (suc k) zero q = refl
    before (x ∷ xs) (suc k) (suc i) q = before xs k i (omega (arith, q))

pub numbers_all : (fs : List Frac) (l k : ℕ) → k ≡ length fs → take k (all_over l fs) ≡ all_over l fs
numbers_all fs l k e = (λ i. take ((e ∙ sym (length-map fs (over l))) i) (all_over l fs)) ∙ take-length (all_over l fs)

pub number_fits : (n : ℕ) (z : ℤ) → IsNumber n z → FitsSigned w128 z
number_fits n z h = subst (FitsSigned w128) (sym h.is) (let l = h.fits in search rules)
