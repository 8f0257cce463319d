-- The least denominator that serves is the least common multiple.
use Rattle.std.proofs.Common.{◌≡◌, ◌<◌, ◌/◌, ◌*◌, ℕ, zero, suc, ℤ, pos, ◌*ℤ◌, ◌≤ℤ◌, ◌<ℤ◌, List, [], ◌∷◌, map, take, length, refl, sym, ap, ◌∙◌, subst, arith}
use Rattle.std.proofs.lemmas.List.{length-map}
use Rattle.std.proofs.lemmas.Int.{ints}
use Rattle.std.specs.Int.RustNames.{unsigned_abs}
use Rattle.std.proofs.lemmas.Nat.Gcd.{le_of_dvd}
use Rattle.std.proofs.Math.Nat.{mul-div_cancel'}
use Prim.Native.Nat.{◌∣◌}
use lib.IntN.{negsuc, *ℤ_comm}
use Rattle.raml_num.specs.Sums.{NoneNegative}
use Rattle.raml_num.proofs.Dividing.{lowest_divides}
use Rattle.raml_num.proofs.Differences.{mul_assoc, diffs, is_diff, diff_same}
use Rattle.raml_num.proofs.Signed.{none_mul, cancelled}
use Rattle.frac128.specs.declared.Frac.{Frac}
use Rattle.frac128.specs.Values.{denominator}
use Rattle.linear_rows.specs.Laws.{InProportion}
use Rattle.simplex.specs.Standing.{Stands}
use Rattle.simplex_spec.specs.Places.{at}
use Rattle.simplex.specs.Reading.{frac_at, AreOver}
use Rattle.simplex_integers.specs.Wholes.{AreLeastWholes, InDenominator, InNumber}
use Rattle.simplex_integers.specs.Denominators.{EachDivides, IsLcmOf, denominators, over, all_over}
use Rattle.simplex_integers.specs.Laws.{AreNatural, LeastDenominators, RefusedEntriesLeave}
use Rattle.simplex_integers.proofs.Common.{next_lcm}

-- Fractions over a number, one by one

first_is : (d n : ℤ) (ns : List ℤ) (f : Frac) (fs : List Frac) → AreOver d (n ∷ ns) (f ∷ fs) → Stands d n f
first_is d n ns f fs h = h.each 0 (omega arith)

rest_are : (d n : ℤ) (ns : List ℤ) (f : Frac) (fs : List Frac) → AreOver d (n ∷ ns) (f ∷ fs) → AreOver d ns fs
rest_are d n ns f fs h = record { count = (let c = h.count in omega (arith, c)); each = λ i q. h.each (suc i) (omega (arith, q)) }

too_few : {X : Type 0} (d n : ℤ) (ns : List ℤ) → AreOver d (n ∷ ns) [] → X
too_few d n ns h = absurd (let c = h.count in omega (arith, c))

too_many : {X : Type 0} (d : ℤ) (f : Frac) (fs : List Frac) → AreOver d [] (f ∷ fs) → X
too_many d f fs h = absurd (let c = h.count in omega (arith, c))

-- Signs

abs_is : (z : ℤ) → pos 0 ≤ℤ z → z ≡ pos (unsigned_abs z)
abs_is (pos n) h = refl
abs_is (negsuc n) h = absurd (omega (arith, ints))

-- what is not negative times a positive number is not negative
not_negative : (d n : ℤ) (f : Frac) → pos 0 <ℤ d → pos 0 ≤ℤ n → Stands d n f → pos 0 ≤ℤ f.num
not_negative (negsuc d) n f pd pn h = absurd (omega (arith, ints))
not_negative (pos d) n f pd pn h = by f.num h.is (none_mul n (pos f.den) pn (omega (arith, ints)))
  where
    by : (z : ℤ) → z *ℤ pos d ≡ n *ℤ pos f.den → pos 0 ≤ℤ (n *ℤ pos f.den) → pos 0 ≤ℤ z
    by (pos k) e p = omega (arith, ints)
    by (negsuc k) e p = absurd (grind (arith, ints, e, p, pd))

-- over a multiple of its denominator
over_multiple : (l : ℕ) (d n : ℤ) (f : Frac) → pos 0 ≤ℤ f.num → Stands d n f → f.den ∣ l → pos l *ℤ n ≡ d *ℤ pos (over l f)
over_multiple l d n f h s p =
    let q = l / f.den in
    let k = unsigned_abs f.num in
    let e : f.den * q ≡ l = mul-div_cancel' f.den p in
    ap (λ v. v *ℤ n) (product f.den q l e) ∙ mul_assoc (pos q) (pos f.den) n ∙ ap (λ v. pos q *ℤ v) (*ℤ_comm (pos f.den) n ∙ sym s.is ∙ ap (λ v. v *ℤ d) (abs_is f.num h))
    ∙ sym (mul_assoc (pos q) (pos k) d) ∙ ap (λ v. v *ℤ d) (sym (product k q (q * k) (swapped k q))) ∙ *ℤ_comm (pos (q * k)) d
  where
    product : (e q l : ℕ) → e * q ≡ l → pos l ≡ pos q *ℤ pos e
    product e q l h = omega (arith, ints)

    swapped : (k q : ℕ) → k * q ≡ q * k
    swapped k q = grind arith

in_proportion : (l : ℕ) (d : ℤ) → pos 0 <ℤ d → (ns : List ℤ) (fs : List Frac) → NoneNegative ns → AreOver d ns fs → EachDivides (denominators fs) l →
    InProportion d (pos l) ns (map pos (all_over l fs))
in_proportion l d pd [] [] n h k = refl
in_proportion l d pd [] (f ∷ fs) n h k = too_many d f fs h
in_proportion l d pd (m ∷ ns) [] n h k = too_few d m ns h
in_proportion l d pd (m ∷ ns) (f ∷ fs) n h k = λ i.
    over_multiple l d m f (not_negative d m f pd n.0 (first_is d m ns f fs h)) (first_is d m ns f fs h) k.0 i
    ∷ in_proportion l d pd ns fs n.1 (rest_are d m ns f fs h) k.1 i

swap : (k m x : ℤ) → k *ℤ (m *ℤ x) ≡ m *ℤ (k *ℤ x)
swap k m x = rw (is_diff k, is_diff m, is_diff x) (simp diffs (diff_same _ _ _ _ (omega arith)))

-- a number over which a fraction is whole is a multiple of its denominator
must_divide : (d n : ℤ) (f : Frac) (u w : ℕ) → pos 0 <ℤ d → pos 0 ≤ℤ n → Stands d n f → pos u *ℤ n ≡ d *ℤ pos w → f.den ∣ u
must_divide d n f u w pd pn h e =
    let num : f.num ≡ pos (unsigned_abs f.num) = abs_is f.num (not_negative d n f pd pn h) in
    let chain : d *ℤ (pos w *ℤ pos f.den) ≡ d *ℤ (f.num *ℤ pos u) =
    sym (mul_assoc d (pos w) (pos f.den)) ∙ ap (λ v. v *ℤ pos f.den) (sym e) ∙ mul_assoc (pos u) n (pos f.den) ∙ ap (λ v. pos u *ℤ v) (sym h.is)
    ∙ swap (pos u) f.num d ∙ ap (λ v. f.num *ℤ v) (*ℤ_comm (pos u) d) ∙ swap f.num d (pos u) in
    let short : pos w *ℤ pos f.den ≡ f.num *ℤ pos u = cancelled d (pos w *ℤ pos f.den) (f.num *ℤ pos u) (λ z. omega (arith, ints)) chain in
    let nat : pos w *ℤ pos f.den ≡ pos (unsigned_abs f.num) *ℤ pos u = short ∙ ap (λ v. v *ℤ pos u) num in
    let both = lowest_divides (unsigned_abs f.num) f.den w u f.lowest.coprime (naturals w f.den (unsigned_abs f.num) u nat) in both.1
  where
    naturals : (w e k u : ℕ) → pos w *ℤ pos e ≡ pos k *ℤ pos u → w * e ≡ k * u
    naturals w e k u h = omega (arith, ints)

head_is : (a b : ℤ) (xs zs : List ℤ) → (a ∷ xs) ≡ (b ∷ zs) → a ≡ b
head_is a b xs zs e = cc

tail_is : (a b : ℤ) (xs zs : List ℤ) → (a ∷ xs) ≡ (b ∷ zs) → xs ≡ zs
tail_is a b xs zs e = cc

all_divide : (d : ℤ) (u : ℕ) → pos 0 <ℤ d → (ns : List ℤ) (fs : List Frac) (ws : List ℕ) → NoneNegative ns → AreOver d ns fs →
    InProportion d (pos u) ns (map pos ws) → EachDivides (denominators fs) u
all_divide d u pd [] [] ws n h p = tt
all_divide d u pd [] (f ∷ fs) ws n h p = too_many d f fs h
all_divide d u pd (m ∷ ns) [] ws n h p = tt
all_divide d u pd (m ∷ ns) (f ∷ fs) [] n h p = absurd (cc)
all_divide d u pd (m ∷ ns) (f ∷ fs) (w ∷ ws) n h p = (
  must_divide d m f u w pd n.0 (first_is d m ns f fs h) (head_is _ _ _ _ p),
  all_divide d u pd ns fs ws n.1 (rest_are d m ns f fs h) (tail_is _ _ _ _ p),
)

pub least_denominators : LeastDenominators
least_denominators d ns fs h l k = record {
  are = record { positive = k.positive; over = in_proportion l d h.positive ns fs h.natural h.are k.each };
  least = λ u ws a. le_of_dvd a.positive (k.least u (all_divide d u h.positive ns fs ws h.natural h.are a.over));
}

-- The first entries

natural_take : (ns : List ℤ) (k : ℕ) → NoneNegative ns → NoneNegative (take k ns)
natural_take ns zero h = tt
natural_take [] (suc k) h = tt
natural_take (n ∷ ns) (suc k) h = (h.0, natural_take ns k h.1)

more_are : (d n : ℤ) (ns : List ℤ) (f : Frac) (fs : List Frac) → Stands d n f → AreOver d ns fs → AreOver d (n ∷ ns) (f ∷ fs)
more_are d n ns f fs s h = record { count = ap suc h.count; each = by }
  where
    by : (i : ℕ) → i < length (n ∷ ns) → Stands d (at (n ∷ ns) i) (frac_at (f ∷ fs) i)
    by zero q = s
    by (suc i) q = h.each i (omega (arith, q))

over_take : (d : ℤ) (ns : List ℤ) (fs : List Frac) (k : ℕ) → AreOver d ns fs → AreOver d (take k ns) (take k fs)
over_take d ns fs zero h = record { count = refl; each = λ i q. absurd (omega (arith, q)) }
over_take d [] [] (suc k) h = h
over_take d [] (f ∷ fs) (suc k) h = too_many d f fs h
over_take d (n ∷ ns) [] (suc k) h = too_few d n ns h
over_take d (n ∷ ns) (f ∷ fs) (suc k) h = more_are d n (take k ns) f (take k fs) (first_is d n ns f fs h) (over_take d ns fs k (rest_are d n ns f fs h))

natural_first : (d : ℤ) (ns : List ℤ) (fs : List Frac) (k : ℕ) → AreNatural d ns fs → AreNatural d (take k ns) (take k fs)
natural_first d ns fs k h = record { positive = h.positive; natural = natural_take ns k h.natural; are = over_take d ns fs k h.are }

take_map : {X Y : Type 0} (f : X → Y) (k : ℕ) (xs : List X) → take k (map f xs) ≡ map f (take k xs)
take_map f zero xs = refl
take_map f (suc k) [] = refl
take_map f (suc k) (x ∷ xs) = ap (λ ys. f x ∷ ys) (take_map f k xs)

first_wholes : (d : ℤ) (ns : List ℤ) (fs : List Frac) (k : ℕ) → AreNatural d ns fs → (l : ℕ) → IsLcmOf (take k (denominators fs)) l →
    AreLeastWholes d (take k ns) l (all_over l (take k fs))
first_wholes d ns fs k h l is = least_denominators d (take k ns) (take k fs) (natural_first d ns fs k h) l (subst (λ es. IsLcmOf es l) (take_map denominator k fs) is)

pub refused_entries_leave : RefusedEntriesLeave
refused_entries_leave = record {
  denominator = λ d ns fs h entry r.
      let count = h.are.count in
      let same = length-map fs denominator in
      let inside = r.inside in
      let m = next_lcm fs entry r.before inside r.is.is in
      InDenominator (omega (arith, count, same, inside)) m.0 r.before _ _ (first_wholes d ns fs (suc entry) h m.0 m.1) (r.leaves m.0 m.1) (first_wholes d ns fs entry h r.before r.is.is) r.is.fits;
  number = λ d ns fs h l is fits entry r. InNumber l (all_over l fs) (least_denominators d ns fs h l is) fits r.leaves r.before;
}
