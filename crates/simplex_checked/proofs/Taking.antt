-- Numbers that fit over some denominator leave at no entry.
use Rattle.std.proofs.Common.{◌≡◌, ◌≤◌, ◌<◌, ◌*◌, ◌^◌, ℕ, zero, suc, ℤ, pos, ◌*ℤ◌, ◌<ℤ◌, List, [], ◌∷◌, ◌++◌, map, take, drop, length, slice_index_or, refl, sym, ap, ◌∙◌, subst, arith}
use Rattle.std.proofs.lemmas.List.{length-map, map-append, length-append}
use Rattle.std.proofs.lemmas.Int.{ints}
use Rattle.raml_num.proofs.Differences.{diffs, diff-pos, is_diff, diff_same}
use Rattle.raml_num.proofs.Signed.{cancelled}
use Rattle.linear_rows.specs.Vectors.{scale}
use Rattle.linear_rows.specs.Laws.{InProportion}
use Rattle.linear_rows.specs.Systems.{LinearSystem, ProvesLeast, Refutes}
use Rattle.linear_rows.proofs.Proportions.{agree}
use Rattle.frac128.specs.declared.Frac.{Frac}
use Rattle.simplex_spec.specs.Tableaux.{right}
use Rattle.simplex_integers.specs.Wholes.{most, AreWholes, ScaleLeaves, InDenominator, InNumber}
use Rattle.simplex_integers.specs.Denominators.{denominators, IsDenominator, DenominatorLeaves, over, all_over, NumberLeaves}
use Rattle.simplex_integers.specs.Laws.{AreNatural, LeastDenominators, RefusedEntriesLeave}
use Rattle.simplex_checked.specs.Wholes.{AreLeast, AreRefuting, AreTaken, HaveWholes}
use Rattle.simplex_checked.proofs.Joining.{take_first, drop_first, over_parts, both_natural, parts_are}

-- the same front of both lists
take_scale : (t : ℤ) (ns : List ℤ) (n : ℕ) → scale t (take n ns) ≡ take n (scale t ns)
take_scale t ns zero = refl
take_scale t [] (suc n) = refl
take_scale t (m ∷ ns) (suc n) = λ i. (t *ℤ m) ∷ take_scale t ns n i

take_natural : (xs : List ℕ) (n : ℕ) → map pos (take n xs) ≡ take n (map pos xs)
take_natural xs zero = refl
take_natural [] (suc n) = refl
take_natural (x ∷ xs) (suc n) = λ i. pos x ∷ take_natural xs n i

first_wholes : (d : ℤ) (ns : List ℤ) (t : ℕ) (xs : List ℕ) (n : ℕ) → AreWholes d ns t xs → AreWholes d (take n ns) t (take n xs)
first_wholes d ns t xs n h = record {
  positive = h.positive;
  over = take_scale (pos t) ns n ∙ ap (take n) h.over ∙ sym (ap (scale d) (take_natural xs n) ∙ take_scale d (map pos xs) n);
}

-- over a lesser number the numbers are no greater
no_greater : (t u x y : ℕ) → 0 < t → u ≤ t → t * y ≡ u * x → y ≤ x
no_greater t u x y p l e = grind (arith, p, l, e)

swap : (k m : ℕ) (x : ℤ) → pos k *ℤ (pos m *ℤ x) ≡ pos m *ℤ (pos k *ℤ x)
swap k m x = rw (is_diff x) (simp (diffs, diff-pos) (diff_same _ _ _ _ (omega arith)))

head_is : (a b : ℤ) (xs zs : List ℤ) → (a ∷ xs) ≡ (b ∷ zs) → a ≡ b
head_is a b xs zs e = cc

tail_is : (a b : ℤ) (xs zs : List ℤ) → (a ∷ xs) ≡ (b ∷ zs) → xs ≡ zs
tail_is a b xs zs e = cc

one_no_greater : (d : ℤ) → pos 0 <ℤ d → (t u : ℕ) → 0 < t → u ≤ t → (n : ℤ) (x y : ℕ) → pos t *ℤ n ≡ d *ℤ pos x → pos u *ℤ n ≡ d *ℤ pos y → y ≤ x
one_no_greater d pd t u pt l n x y e f =
    let chain : d *ℤ (pos t *ℤ pos y) ≡ d *ℤ (pos u *ℤ pos x) =
    turn d t y ∙ ap (λ v. pos t *ℤ v) (sym f) ∙ swap t u n ∙ ap (λ v. pos u *ℤ v) e ∙ sym (turn d u x) in
    let short : pos t *ℤ pos y ≡ pos u *ℤ pos x = cancelled d (pos t *ℤ pos y) (pos u *ℤ pos x) (λ z. omega (arith, ints)) chain in
    no_greater t u x y pt l (naturals t y u x short)
  where
    turn : (d : ℤ) (k m : ℕ) → d *ℤ (pos k *ℤ pos m) ≡ pos k *ℤ (d *ℤ pos m)
    turn d k m = rw (is_diff d) (simp (diffs, diff-pos) (diff_same _ _ _ _ (omega arith)))

    naturals : (k m i j : ℕ) → pos k *ℤ pos m ≡ pos i *ℤ pos j → k * m ≡ i * j
    naturals k m i j h = omega (arith, ints)

each_no_greater : (d : ℤ) → pos 0 <ℤ d → (t u : ℕ) → 0 < t → u ≤ t → (ns : List ℤ) (xs ys : List ℕ) →
    scale (pos t) ns ≡ scale d (map pos xs) → scale (pos u) ns ≡ scale d (map pos ys) → (i : ℕ) → slice_index_or ys i 0 ≤ slice_index_or xs i 0
each_no_greater d pd t u pt l ns xs [] e f i = omega arith
each_no_greater d pd t u pt l [] xs (y ∷ ys) e f i = absurd (cc)
each_no_greater d pd t u pt l (n ∷ ns) [] (y ∷ ys) e f i = absurd (cc)
each_no_greater d pd t u pt l (n ∷ ns) (x ∷ xs) (y ∷ ys) e f zero = one_no_greater d pd t u pt l n x y (head_is _ _ _ _ e) (head_is _ _ _ _ f)
each_no_greater d pd t u pt l (n ∷ ns) (x ∷ xs) (y ∷ ys) e f (suc i) = each_no_greater d pd t u pt l ns xs ys (tail_is _ _ _ _ e) (tail_is _ _ _ _ f) i

never_leaves : (d : ℤ) → pos 0 <ℤ d → (ns : List ℤ) (t : ℕ) (xs : List ℕ) → AreWholes d ns t xs → t < most →
    ((i : ℕ) → slice_index_or xs i 0 < most) → (entry : ℕ) → ScaleLeaves d ns entry → ⊥
never_leaves d pd ns t xs h low each entry (InDenominator inside u v ys zs a big b small) =
    let le = a.least t (take (suc entry) xs) (first_wholes d ns t xs (suc entry) h) in
    omega (arith, le, big, low)
never_leaves d pd ns t xs h low each entry (InNumber u ys a small big before) =
    let le = a.least t xs h in
    let most_is = each_no_greater d pd t u h.positive le ns xs ys h.over a.are.over entry in
    let here = each entry in
    omega (arith, most_is, here, big)

module _ (law : RefusedEntriesLeave) (fs : List Frac) (h : HaveWholes fs) where
  never_refused : (entry : ℕ) → ScaleLeaves h.d h.ns entry → ⊥
  never_refused entry leaves = never_leaves h.d h.are.positive h.ns h.over h.numbers h.wholes h.fits h.each entry leaves

  pub denominator_fits : (entry : ℕ) → DenominatorLeaves (denominators fs) entry → ⊥
  denominator_fits entry leaves = never_refused entry (law.denominator h.d h.ns fs h.are entry leaves)

  pub number_fits : (l : ℕ) → IsDenominator (denominators fs) l → (entry : ℕ) → NumberLeaves l fs entry → ⊥
  number_fits l is entry leaves = never_refused entry (law.number h.d h.ns fs h.are l is.is is.fits entry leaves)

front_fits : (xs ys : List ℕ) → ((i : ℕ) → slice_index_or (xs ++ ys) i 0 < most) → (i : ℕ) → slice_index_or xs i 0 < most
front_fits [] ys h i = omega arith
front_fits (x ∷ xs) ys h zero = h 0
front_fits (x ∷ xs) ys h (suc i) = front_fits xs ys (λ k. h (suc k)) i

positive_pos : (t : ℕ) → 0 < t → pos 0 <ℤ pos t
positive_pos t h = omega (arith, ints)

-- numbers of both, and those in front

both_numbers : (l : ℕ) (x y : List Frac) (numbers : List ℤ) → numbers ≡ map pos (all_over l (x ++ y)) → numbers ≡ map pos (all_over l x) ++ map pos (all_over l y)
both_numbers l x y numbers e = e ∙ ap (map pos) (over_parts l x y) ∙ map-append pos (all_over l x) (all_over l y)

count_numbers : (l : ℕ) (x : List Frac) → length x ≡ length (map pos (all_over l x))
count_numbers l x = sym (length-map x (over l)) ∙ sym (length-map (all_over l x) pos)

pub front_is : (l : ℕ) (x y : List Frac) (numbers front : List ℤ) → numbers ≡ map pos (all_over l (x ++ y)) → front ≡ take (length x) numbers → front ≡ map pos (all_over l x)
front_is l x y numbers front e p =
    p ∙ ap (take (length x)) (both_numbers l x y numbers e) ∙ take_first (map pos (all_over l x)) (map pos (all_over l y)) (length x) (count_numbers l x)

-- A least solution

module _ (s : LinearSystem) (x y : List Frac) (h : AreLeast s x y) where
  x_natural : AreNatural h.d h.xs x
  x_natural = record { positive = h.proves.positive; natural = h.proves.solves.natural; are = h.x_are }

  y_natural : AreNatural h.d h.ys y
  y_natural = record { positive = h.proves.positive; natural = h.proves.dual.natural; are = h.y_are }

  pub few_both : right s < 2 ^ 32 → (both : List Frac) → both ≡ x ++ y → length both < 2 ^ 32
  few_both low both e =
      let all = ap length e ∙ length-append x y in
      let columns = h.x_are.count ∙ h.proves.solves.one_each in
      let rows = h.y_are.count ∙ h.proves.dual.one_each in
      omega (arith, low, all, columns, rows)

  pub few_first : right s < 2 ^ 32 → length x < 2 ^ 32
  few_first low =
      let all = few_both low (x ++ y) refl in
      let both = length-append x y in
      omega (arith, all, both)

  module _ (law : LeastDenominators) (l : ℕ) (taken : AreTaken (x ++ y) l) where
    parts : InProportion h.d (pos l) h.xs (map pos (all_over l x)) × InProportion h.d (pos l) h.ys (map pos (all_over l y))
    parts =
        let wholes = law h.d (h.xs ++ h.ys) (x ++ y) (both_natural h.d h.xs h.ys x y x_natural y_natural) l taken.denominator.is in
        parts_are h.d l h.xs h.ys x y h.x_are.count wholes.are.over

    proves_over : ProvesLeast s (map pos (all_over l x)) (map pos (all_over l y)) (pos l)
    proves_over =
        agree.proves s h.xs h.ys (map pos (all_over l x)) (map pos (all_over l y)) h.d (pos l) (positive_pos l taken.denominator.is.positive) parts.0 parts.1 h.proves

    -- of the numbers of both, the front and the rest
    pub proves_parts : (numbers front back : List ℤ) → numbers ≡ map pos (all_over l (x ++ y)) → front ≡ take (length x) numbers → back ≡ drop (length x) numbers →
        ProvesLeast s front back (pos l)
    proves_parts numbers front back e p q =
        let all = both_numbers l x y numbers e in
        let count = count_numbers l x in
        subst (λ ns. ProvesLeast s ns back (pos l)) (sym (front_is l x y numbers front e p))
        (subst (λ ns. ProvesLeast s (map pos (all_over l x)) ns (pos l)) (sym (q ∙ ap (drop (length x)) all ∙ drop_first (map pos (all_over l x)) (map pos (all_over l y)) (length x) count)) proves_over)

    pub have_wholes : HaveWholes x
    have_wholes = record {
      d = h.d;
      ns = h.xs;
      are = x_natural;
      over = l;
      numbers = all_over l x;
      wholes = record { positive = taken.denominator.is.positive; over = parts.0 };
      fits = taken.denominator.fits;
      each = front_fits (all_over l x) (all_over l y) (subst (λ ns. (i : ℕ) → slice_index_or ns i 0 < most) (over_parts l x y) taken.numbers);
    }

-- A vector

module _ (s : LinearSystem) (y : List Frac) (h : AreRefuting s y) where
  pub few : right s < 2 ^ 32 → length y < 2 ^ 32
  few low = let rows = h.are.count ∙ h.refutes.one_each in omega (arith, low, rows)

  pub refutes_over : LeastDenominators → (l : ℕ) → AreTaken y l → Refutes s (map pos (all_over l y))
  refutes_over law l taken =
      let wholes = law h.d h.ys y (record { positive = h.positive; natural = h.refutes.natural; are = h.are }) l taken.denominator.is in
      agree.refutes s h.ys (map pos (all_over l y)) h.d (pos l) h.positive (positive_pos l taken.denominator.is.positive) wholes.are.over h.refutes
