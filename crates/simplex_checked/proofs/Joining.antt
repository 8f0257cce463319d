-- Two lists of fractions over one number, one behind the other.
use Rattle.std.proofs.Common.{◌≡◌, ◌<◌, ◌+◌, ℕ, zero, suc, ℤ, pos, ◌*ℤ◌, List, [], ◌∷◌, ◌++◌, map, length, take, drop, refl, sym, ap, ◌∙◌, arith}
use Rattle.std.proofs.lemmas.List.{length-map, map-append}
use Rattle.raml_num.specs.Sums.{NoneNegative}
use Rattle.linear_rows.specs.Vectors.{scale}
use Rattle.linear_rows.specs.Laws.{InProportion}
use Rattle.frac128.specs.declared.Frac.{Frac}
use Rattle.simplex_spec.specs.Places.{at}
use Rattle.simplex.specs.Standing.{Stands}
use Rattle.simplex.specs.Reading.{AreOver, frac_at}
use Rattle.simplex_integers.specs.Denominators.{over, all_over}
use Rattle.simplex_integers.specs.Laws.{AreNatural}

pub take_first : {X : Type 0} (xs ys : List X) (n : ℕ) → n ≡ length xs → take n (xs ++ ys) ≡ xs
take_first [] ys zero e = refl
take_first [] ys (suc n) e = absurd (omega (arith, e))
take_first (x ∷ xs) ys zero e = absurd (omega (arith, e))
take_first (x ∷ xs) ys (suc n) e = ap (λ zs. x ∷ zs) (take_first xs ys n (omega (arith, e)))

pub drop_first : {X : Type 0} (xs ys : List X) (n : ℕ) → n ≡ length xs → drop n (xs ++ ys) ≡ ys
drop_first [] ys zero e = refl
drop_first [] ys (suc n) e = absurd (omega (arith, e))
drop_first (x ∷ xs) ys zero e = absurd (omega (arith, e))
drop_first (x ∷ xs) ys (suc n) e = drop_first xs ys n (omega (arith, e))

-- what is written in two ways, one list behind another, is the same part by part
pub split : {X : Type 0} (a b c d : List X) → length a ≡ length c → a ++ b ≡ c ++ d → (a ≡ c) × (b ≡ d)
split [] b [] d e h = (refl, h)
split [] b (z ∷ c) d e h = absurd (omega (arith, e))
split (x ∷ a) b [] d e h = absurd (omega (arith, e))
split {X} (x ∷ a) b (z ∷ c) d e h =
    let rest = split a b c d (omega (arith, e)) (tail x z (a ++ b) (c ++ d) h) in
    (λ i. head x z (a ++ b) (c ++ d) h i ∷ rest.0 i, rest.1)
  where
    head : (x z : X) (a c : List X) → x ∷ a ≡ z ∷ c → x ≡ z
    head x z a c h = cc

    tail : (x z : X) (a c : List X) → x ∷ a ≡ z ∷ c → a ≡ c
    tail x z a c h = cc

scale_both : (k : ℤ) (xs ys : List ℤ) → scale k (xs ++ ys) ≡ scale k xs ++ scale k ys
scale_both k [] ys = refl
scale_both k (x ∷ xs) ys = ap (λ zs. (k *ℤ x) ∷ zs) (scale_both k xs ys)

length_scale : (k : ℤ) (xs : List ℤ) → length (scale k xs) ≡ length xs
length_scale k [] = refl
length_scale k (x ∷ xs) = ap suc (length_scale k xs)

natural_both : (xs ys : List ℤ) → NoneNegative xs → NoneNegative ys → NoneNegative (xs ++ ys)
natural_both [] ys h k = k
natural_both (x ∷ xs) ys h k = (h.0, natural_both xs ys h.1 k)

over_both : (d : ℤ) (xs ys : List ℤ) (x y : List Frac) → AreOver d xs x → AreOver d ys y → AreOver d (xs ++ ys) (x ++ y)
over_both d [] ys [] y h k = k
over_both d [] ys (f ∷ x) y h k = absurd (let c = h.count in omega (arith, c))
over_both d (n ∷ xs) ys [] y h k = absurd (let c = h.count in omega (arith, c))
over_both d (n ∷ xs) ys (f ∷ x) y h k = more (h.each 0 (omega arith)) (over_both d xs ys x y (rest h) k)
  where
    rest : AreOver d (n ∷ xs) (f ∷ x) → AreOver d xs x
    rest h = record { count = (let c = h.count in omega (arith, c)); each = λ i q. h.each (suc i) (omega (arith, q)) }

    more : Stands d n f → AreOver d (xs ++ ys) (x ++ y) → AreOver d (n ∷ (xs ++ ys)) (f ∷ (x ++ y))
    more s h = record { count = ap suc h.count; each = by }
      where
        by : (i : ℕ) → i < length (n ∷ (xs ++ ys)) → Stands d (at (n ∷ (xs ++ ys)) i) (frac_at (f ∷ (x ++ y)) i)
        by zero q = s
        by (suc i) q = h.each i (omega (arith, q))

pub both_natural : (d : ℤ) (xs ys : List ℤ) (x y : List Frac) → AreNatural d xs x → AreNatural d ys y → AreNatural d (xs ++ ys) (x ++ y)
both_natural d xs ys x y h k = record { positive = h.positive; natural = natural_both xs ys h.natural k.natural; are = over_both d xs ys x y h.are k.are }

-- numbers over l are those of both parts
pub over_parts : (l : ℕ) (x y : List Frac) → all_over l (x ++ y) ≡ all_over l x ++ all_over l y
over_parts l x y = map-append (over l) x y

-- and both are in proportion where all are
pub parts_are : (d : ℤ) (l : ℕ) (xs ys : List ℤ) (x y : List Frac) → length x ≡ length xs → InProportion d (pos l) (xs ++ ys) (map pos (all_over l (x ++ y))) →
    InProportion d (pos l) xs (map pos (all_over l x)) × InProportion d (pos l) ys (map pos (all_over l y))
parts_are d l xs ys x y e h =
    let numbers = ap (map pos) (over_parts l x y) ∙ map-append pos (all_over l x) (all_over l y) in
    let count : length (scale (pos l) xs) ≡ length (scale d (map pos (all_over l x))) =
    length_scale (pos l) xs ∙ sym e ∙ sym (length-map x (over l)) ∙ sym (length-map (all_over l x) pos) ∙ sym (length_scale d (map pos (all_over l x))) in
    split (scale (pos l) xs) (scale (pos l) ys) (scale d (map pos (all_over l x))) (scale d (map pos (all_over l y))) count
    (sym (scale_both (pos l) xs ys) ∙ h ∙ ap (scale d) numbers ∙ scale_both d (map pos (all_over l x)) (map pos (all_over l y)))
