-- An expansion is worth the product of binomials.
use Rattle.std.proofs.Common.{◌≡◌, ◌≤◌, ◌+◌, ◌*◌, ◌^◌, ℕ, zero, suc, ℤ, pos, negsuc, ◌*ℤ◌, List, [], ◌∷◌, length, refl, sym, ap, ◌∙◌, arith}
use native.Mathlib.Numerals.{unary_clauses}
use Rattle.std.proofs.lemmas.Grind.{pow_more}
use Rattle.base_poly.specs.Base.{total}
use Rattle.base_poly.specs.Laws.{choose}
use Rattle.base_poly.proofs.Sums.{total_parts}
use Rattle.bound_compare.specs.Powers.{Powers, factorial, above, below, monomial}
use Rattle.bound_compare.specs.Steps.{factors, led, expansion}
use Rattle.bound_compare.proofs.Expanded.{IsLow, negated}

-- the sum of what a function makes of the numbers, each times its powers of the counts
abbrev pub weighed : (ℤ → ℕ) → List ℕ → Powers → ℕ
weighed g ns ps = total (λ p. g p.1 * monomial ns p.0) ps

-- the same of the powers of one count
abbrev factored : (ℤ → ℕ) → ℕ → List (ℕ × ℤ) → ℕ
factored g n fs = total (λ f. g f.1 * n ^ f.0) fs

-- the product of the binomials, each times the falling product's k!
abbrev pub fallen : List ℕ → List ℕ → ℕ
fallen (n ∷ ns) (k ∷ ks) = factorial k * choose n k * fallen ns ks
fallen _ _ = 1

above_product : (x y : ℤ) → above (x *ℤ y) ≡ above x * above y + below x * below y
above_product (pos m) (pos n) = omega arith
above_product (pos m) (negsuc n) = (negated (m * suc n)).0 ∙ omega arith
above_product (negsuc m) (pos n) = (negated (suc m * n)).0 ∙ omega arith
above_product (negsuc m) (negsuc n) = omega arith

below_product : (x y : ℤ) → below (x *ℤ y) ≡ above x * below y + below x * above y
below_product (pos m) (pos n) = omega arith
below_product (pos m) (negsuc n) = (negated (m * suc n)).1 ∙ omega arith
below_product (negsuc m) (pos n) = (negated (suc m * n)).1 ∙ omega arith
below_product (negsuc m) (negsuc n) = omega arith

one_more : (a b x y m k u w s r : ℕ) → s ≡ a * x + b * y → r ≡ k * (a * u + b * w) → s * (k * m) + r ≡ k * (a * (x * m + u) + b * (y * m + w))
one_more a b x y m k u w s r e f = (λ i. e i * (k * m) + f i) ∙ ring
  where
    ring : (a * x + b * y) * (k * m) + k * (a * u + b * w) ≡ k * (a * (x * m + u) + b * (y * m + w))
    ring = grind arith

led_above : (n : ℕ) (ns : List ℕ) (f : ℕ × ℤ) (ps : Powers) → weighed above (n ∷ ns) (led ps f) ≡ n ^ f.0 * (above f.1 * weighed above ns ps + below f.1 * weighed below ns ps)
led_above n ns f [] = grind arith
led_above n ns f (p ∷ ps) =
    one_more (above f.1) (below f.1) (above p.1) (below p.1) (monomial ns p.0) (n ^ f.0) (weighed above ns ps) (weighed below ns ps) _ _ (above_product f.1 p.1) (led_above n ns f ps)

led_below : (n : ℕ) (ns : List ℕ) (f : ℕ × ℤ) (ps : Powers) → weighed below (n ∷ ns) (led ps f) ≡ n ^ f.0 * (above f.1 * weighed below ns ps + below f.1 * weighed above ns ps)
led_below n ns f [] = grind arith
led_below n ns f (p ∷ ps) =
    one_more (above f.1) (below f.1) (below p.1) (above p.1) (monomial ns p.0) (n ^ f.0) (weighed below ns ps) (weighed above ns ps) _ _ (below_product f.1 p.1) (led_below n ns f ps)

gathered : (a b k u w s r x y : ℕ) → s ≡ k * (a * u + b * w) → r ≡ x * u + y * w → s + r ≡ (a * k + x) * u + (b * k + y) * w
gathered a b k u w s r x y e f = (λ i. e i + f i) ∙ ring
  where
    ring : k * (a * u + b * w) + (x * u + y * w) ≡ (a * k + x) * u + (b * k + y) * w
    ring = grind arith

all_above : (n : ℕ) (ns : List ℕ) (ps : Powers) (fs : List (ℕ × ℤ)) → total (λ f. weighed above (n ∷ ns) (led ps f)) fs ≡ factored above n fs * weighed above ns ps + factored below n fs * weighed below ns ps
all_above n ns ps [] = omega arith
all_above n ns ps (f ∷ fs) =
    gathered (above f.1) (below f.1) (n ^ f.0) (weighed above ns ps) (weighed below ns ps) _ _ (factored above n fs) (factored below n fs) (led_above n ns f ps) (all_above n ns ps fs)

all_below : (n : ℕ) (ns : List ℕ) (ps : Powers) (fs : List (ℕ × ℤ)) → total (λ f. weighed below (n ∷ ns) (led ps f)) fs ≡ factored above n fs * weighed below ns ps + factored below n fs * weighed above ns ps
all_below n ns ps [] = omega arith
all_below n ns ps (f ∷ fs) =
    gathered (above f.1) (below f.1) (n ^ f.0) (weighed below ns ps) (weighed above ns ps) _ _ (factored above n fs) (factored below n fs) (led_below n ns f ps) (all_below n ns ps fs)

-- Binomials as polynomials

singles : (n : ℕ) → choose n (suc zero) ≡ n
singles zero = refl
singles (suc n) = let one = singles n in omega (arith, one)

pairs : (n : ℕ) → 2 * choose n (suc (suc zero)) + n ≡ n * n
pairs zero = refl
pairs (suc n) = let one = singles n in let two = pairs n in let grown = square n in omega (arith, one, two, grown)
  where
    square : (n : ℕ) → suc n * suc n ≡ n * n + 2 * n + 1
    square n = grind arith

triples : (n : ℕ) → 6 * choose n (suc (suc (suc zero))) + 3 * (n * n) ≡ n * n * n + 2 * n
triples zero = refl
triples (suc n) = let two = pairs n in let three = triples n in let grown = square n in let more = cube n in omega (arith, two, three, grown, more)
  where
    square : (n : ℕ) → suc n * suc n ≡ n * n + 2 * n + 1
    square n = grind arith

    cube : (n : ℕ) → suc n * suc n * suc n ≡ n * n * n + 3 * (n * n) + 3 * n + 1
    cube n = grind arith

fours : (n : ℕ) → 24 * choose n (suc (suc (suc (suc zero)))) + 6 * (n * n * n) + 6 * n ≡ n * n * n * n + 11 * (n * n)
fours zero = refl
fours (suc n) =
    let three = triples n in let four = fours n in let grown = square n in let more = cube n in let most = fourth n in
    omega (arith, three, four, grown, more, most)
  where
    square : (n : ℕ) → suc n * suc n ≡ n * n + 2 * n + 1
    square n = grind arith

    cube : (n : ℕ) → suc n * suc n * suc n ≡ n * n * n + 3 * (n * n) + 3 * n + 1
    cube n = grind arith

    fourth : (n : ℕ) → suc n * suc n * suc n * suc n ≡ n * n * n * n + 4 * (n * n * n) + 6 * (n * n) + 4 * n + 1
    fourth n = grind arith

none : (n : ℕ) → n ^ 0 ≡ 1
none n = simp unary_clauses

first : (n : ℕ) → n ^ 1 ≡ n
first n = let less = none n in let more = pow_more n 0 in grind (arith, less, more)

second : (n : ℕ) → n ^ 2 ≡ n * n
second n = pow_more n 1 ∙ ap (λ m. m * n) (first n)

third : (n : ℕ) → n ^ 3 ≡ n * n * n
third n = pow_more n 2 ∙ ap (λ m. m * n) (second n)

last : (n : ℕ) → n ^ 4 ≡ n * n * n * n
last n = pow_more n 3 ∙ ap (λ m. m * n) (third n)

falls : (n k : ℕ) → k ≤ 4 → factored above n (factors k) ≡ factored below n (factors k) + factorial k * choose n k
falls n zero l = let a = none n in omega (arith, a)
falls n (suc zero) l = let a = first n in let b = singles n in omega (arith, a, b)
falls n (suc (suc zero)) l = let a = first n in let b = second n in let c = pairs n in omega (arith, a, b, c)
falls n (suc (suc (suc zero))) l = let a = first n in let b = second n in let c = third n in let d = triples n in omega (arith, a, b, c, d)
falls n (suc (suc (suc (suc zero)))) l = let a = first n in let b = second n in let c = third n in let d = last n in let e = fours n in omega (arith, a, b, c, d, e)
falls n (suc (suc (suc (suc (suc k))))) l = absurd (omega arith)

-- what an expansion is worth
pub expansion_worth : (ns ks : List ℕ) → length ns ≡ length ks → IsLow ks → weighed above ns (expansion ks) ≡ weighed below ns (expansion ks) + fallen ns ks
expansion_worth [] [] e low = refl
expansion_worth [] (k ∷ ks) e low = absurd (omega (arith, e))
expansion_worth (n ∷ ns) [] e low = absurd (omega (arith, e))
expansion_worth (n ∷ ns) (k ∷ ks) e low =
    let up = total_parts (λ p. above p.1 * monomial (n ∷ ns) p.0) (led (expansion ks)) (factors k) ∙ all_above n ns (expansion ks) (factors k) in
    let down = total_parts (λ p. below p.1 * monomial (n ∷ ns) p.0) (led (expansion ks)) (factors k) ∙ all_below n ns (expansion ks) (factors k) in
    product (factored above n (factors k)) (factored below n (factors k)) (factorial k * choose n k) (weighed above ns (expansion ks)) (weighed below ns (expansion ks)) (fallen ns ks) _ _
    (falls n k low.0) (expansion_worth ns ks (omega (arith, e)) low.1) up down
  where
    product : (a b c u w f s r : ℕ) → a ≡ b + c → u ≡ w + f → s ≡ a * u + b * w → r ≡ a * w + b * u → s ≡ r + c * f
    product a b c u w f s r p q h g = h ∙ (λ i. p i * q i + b * w) ∙ ring ∙ (λ i. (sym p i * w + b * sym q i) + c * f) ∙ (λ i. sym g i + c * f)
      where
        ring : (b + c) * (w + f) + b * w ≡ ((b + c) * w + b * (w + f)) + c * f
        ring = grind arith
