-- Numbers of entries, and how small what is made of them is.
use Rattle.std.proofs.Common.{◌≡◌, ◌≤◌, ◌<◌, ◌+◌, ◌*◌, ◌/◌, ◌-◌, ◌^◌, ℕ, zero, suc, ℤ, pos, ◌*ℤ◌, List, [], ◌∷◌, ◌++◌, flat_map, take, drop, drop-cons, add-one, length, get_or, All, refl, sym, ap, ◌∙◌, subst, arith}
use Rattle.std.specs.Prelude.{unsigned_abs, FitsSigned}
use Rattle.std.specs.Int.{w128}
use Rattle.std.proofs.Math.IntN.{neg_ℤ}
use Rattle.std.proofs.Math.Nat.{mul-le-mul_left, mul-le-mul_right, mul-div_cancel_left, div-div-eq-div-mul, div-le_self}
use Rattle.std.proofs.lemmas.Int.{fits_signed_from_abs, unsigned_abs-mul}
use Rattle.std.proofs.lemmas.List.{take_all}
use Rattle.std.proofs.lemmas.List.Elements.{All-nil, All-cons}
use Rattle.base_poly.specs.declared.index.Index.{Index}
use Rattle.base_poly.specs.Read.{index_of, plains_of}
use Rattle.base_poly.specs.Plain.{Plain, Unit', Pair, End, Then, NoEntry, OneEntry, many, deg, degrees, entry_count}
use Rattle.bound_compare.specs.Powers.{Powers, counts, factorial, factorials}
use Rattle.bound_compare.specs.Laws.{DivisionIsExact}
use Rattle.bound_compare.specs.Steps.{factors, led, expansion, IsFew}
use Rattle.bound_compare.proofs.Expanded.{IsLow}

pub count_many : (is : List Plain) → entry_count (many is) ≡ length is
count_many [] = refl
count_many (i ∷ is) = let more = count_many is in omega (arith, more)

pub count_low : (i : Plain) → entry_count i ≤ deg i
count_low (Then i r) = let more = count_low r in omega (arith, more)
count_low Unit' = omega arith
count_low (Pair i j) = omega arith
count_low End = omega arith
count_low NoEntry = omega arith
count_low (OneEntry i) = omega arith

size_negated : (m : ℕ) → unsigned_abs (neg_ℤ (pos m)) ≡ m
size_negated zero = refl
size_negated (suc m) = refl

pub product_fits : (a b : ℤ) → unsigned_abs a ≤ 24 → unsigned_abs b ≤ 24 → FitsSigned w128 (a *ℤ b)
product_fits a b f g = fits_signed_from_abs w128 (a *ℤ b) (subst (λ n. n < 2 ^ 127) (sym (unsigned_abs-mul a b)) (small (unsigned_abs a) (unsigned_abs b) f g))
  where
    small : (m n : ℕ) → m ≤ 24 → n ≤ 24 → m * n < 2 ^ 127
    small m n f g = let most = mul-le-mul_left m g in let more = mul-le-mul_right 24 f in omega (arith, most, more)

-- The factorials of counts that are at most 4 together divide 24.

abbrev pub adds : List ℕ → ℕ
adds [] = 0
adds (k ∷ ks) = k + adds ks

ways : (k r : ℕ) → k + r ≤ 4 → (c : ℕ) × (factorial k * factorial r * c ≡ factorial (k + r))
ways zero zero l = (1, refl)
ways zero (suc zero) l = (1, refl)
ways zero (suc (suc zero)) l = (1, refl)
ways zero (suc (suc (suc zero))) l = (1, refl)
ways zero (suc (suc (suc (suc zero)))) l = (1, refl)
ways zero (suc (suc (suc (suc (suc r))))) l = absurd (omega arith)
ways (suc zero) zero l = (1, refl)
ways (suc zero) (suc zero) l = (2, refl)
ways (suc zero) (suc (suc zero)) l = (3, refl)
ways (suc zero) (suc (suc (suc zero))) l = (4, refl)
ways (suc zero) (suc (suc (suc (suc r)))) l = absurd (omega arith)
ways (suc (suc zero)) zero l = (1, refl)
ways (suc (suc zero)) (suc zero) l = (3, refl)
ways (suc (suc zero)) (suc (suc zero)) l = (6, refl)
ways (suc (suc zero)) (suc (suc (suc r))) l = absurd (omega arith)
ways (suc (suc (suc zero))) zero l = (1, refl)
ways (suc (suc (suc zero))) (suc zero) l = (4, refl)
ways (suc (suc (suc zero))) (suc (suc r)) l = absurd (omega arith)
ways (suc (suc (suc (suc zero)))) zero l = (1, refl)
ways (suc (suc (suc (suc zero)))) (suc r) l = absurd (omega arith)
ways (suc (suc (suc (suc (suc k))))) r l = absurd (omega arith)

divided : (ks : List ℕ) (b : ℕ) → adds ks ≤ b → b ≤ 4 → (m : ℕ) × (factorials ks * m ≡ factorial b)
divided [] b h l = (factorial b, omega arith)
divided (k ∷ ks) b h l =
    let more = divided ks (b - k) (omega arith) (omega arith) in
    let way = ways k (b - k) (omega arith) in
    let whole : k + (b - k) ≡ b = omega arith in
    (more.0 * way.0, regroup (factorial k) (factorials ks) more.0 way.0 ∙ ap (λ n. factorial k * n * way.0) more.1 ∙ way.1 ∙ ap factorial whole)
  where
    regroup : (a x m c : ℕ) → a * x * (m * c) ≡ a * (x * m) * c
    regroup a x m c = grind arith

pub counts_add : (t : List Plain) → adds (counts t) ≤ degrees t
counts_add [] = omega arith
counts_add (i ∷ is) = let one = count_low i in let more = counts_add is in omega (arith, one, more)

pub counts_low : (t : List Plain) → degrees t ≤ 4 → IsLow (counts t)
counts_low [] h = tt
counts_low (i ∷ is) h = let one = count_low i in (omega (arith, one, h), counts_low is (omega (arith, h)))

pub division_is_exact : DivisionIsExact
division_is_exact t h =
    let whole = divided (counts t) 4 (let one = counts_add t in omega (arith, one, h)) (omega arith) in
    exact (factorials (counts t)) whole.0 whole.1
  where
    exact : (f m : ℕ) → f * m ≡ 24 → f * (24 / f) ≡ 24
    exact f m e = subst (λ n. f * (n / f) ≡ n) e (again f m e)
      where
        again : (f m : ℕ) → f * m ≡ 24 → f * ((f * m) / f) ≡ f * m
        again zero m e = absurd (omega (arith, e))
        again (suc f) m e = ap (λ n. suc f * n) (mul-div_cancel_left m (omega arith))

factorials_few : (t : List Plain) → degrees t ≤ 4 → factorials (counts t) ≤ 24
factorials_few t h = at (factorials (counts t)) (24 / factorials (counts t)) (division_is_exact t h)
  where
    at : (f m : ℕ) → f * m ≡ 24 → f ≤ 24
    at f zero e = absurd (omega (arith, e))
    at f (suc m) e = let more : f * suc m ≡ f * m + f = grind arith in omega (arith, e, more)

-- No factor of an expansion is greater than these factorials.

abbrev Each : {X : Type 0} → (X → Type 0) → List X → Type 0
Each P [] = Unit {0}
Each P (x ∷ xs) = P x × Each P xs

each_joined : {X : Type 0} (P : X → Type 0) (xs ys : List X) → Each P xs → Each P ys → Each P (xs ++ ys)
each_joined P [] ys h g = g
each_joined P (x ∷ xs) ys h g = (h.0, each_joined P xs ys h.1 g)

factors_small : (k : ℕ) → k ≤ 4 → Each (λ f. unsigned_abs f.1 ≤ factorial k) (factors k)
factors_small zero l = (omega arith, tt)
factors_small (suc zero) l = (omega arith, tt)
factors_small (suc (suc zero)) l = (omega arith, (omega arith, tt))
factors_small (suc (suc (suc zero))) l = (omega arith, (omega arith, (omega arith, tt)))
factors_small (suc (suc (suc (suc zero)))) l = (omega arith, (omega arith, (omega arith, (omega arith, tt))))
factors_small (suc (suc (suc (suc (suc k))))) l = absurd (omega arith)

abbrev IsWithin : ℕ → List ℕ × ℤ → Type 0
IsWithin n p = unsigned_abs p.1 ≤ n

led_within : (a b : ℕ) (f : ℕ × ℤ) (ps : Powers) → unsigned_abs f.1 ≤ a → Each (IsWithin b) ps → Each (IsWithin (a * b)) (led ps f)
led_within a b f [] h g = tt
led_within a b f (p ∷ ps) h g = (subst (λ n. n ≤ a * b) (sym (unsigned_abs-mul f.1 p.1)) (product (unsigned_abs f.1) (unsigned_abs p.1) a b h g.0), led_within a b f ps h g.1)
  where
    product : (m n a b : ℕ) → m ≤ a → n ≤ b → m * n ≤ a * b
    product m n a b f g = let most = mul-le-mul_left m g in let more = mul-le-mul_right b f in omega (arith, most, more)

all_within : (a b : ℕ) (fs : List (ℕ × ℤ)) (ps : Powers) → Each (λ f. unsigned_abs f.1 ≤ a) fs → Each (IsWithin b) ps → Each (IsWithin (a * b)) (flat_map (led ps) fs)
all_within a b [] ps h g = tt
all_within a b (f ∷ fs) ps h g = each_joined (IsWithin (a * b)) (led ps f) (flat_map (led ps) fs) (led_within a b f ps h.0 g) (all_within a b fs ps h.1 g)

within : (ks : List ℕ) → IsLow ks → Each (IsWithin (factorials ks)) (expansion ks)
within [] low = (omega arith, tt)
within (k ∷ ks) low = all_within (factorial k) (factorials ks) (factors k) (expansion ks) (factors_small k low.0) (within ks low.1)

all_few : (n : ℕ) (ps : Powers) → n ≤ 24 → Each (IsWithin n) ps → All IsFew ps
all_few n [] l h = All-nil IsFew
all_few n (p ∷ ps) l h = All-cons IsFew p ps (omega (arith, h.0, l)) (all_few n ps l h.1)

pub expansion_few : (t : List Plain) → degrees t ≤ 4 → All IsFew (expansion (counts t))
expansion_few t h = all_few (factorials (counts t)) (expansion (counts t)) (factorials_few t h) (within (counts t) (counts_low t h))

-- One index of a list, and the others.

pub split_at : (xs : List Index) (i : ℕ) (d : Index) → i < length xs → plains_of (drop i xs) ≡ index_of (get_or xs i d) ∷ plains_of (drop (i + 1) xs)
split_at xs i d h = ap plains_of (drop-cons xs i d h) ∙ ap (λ n. index_of (get_or xs i d) ∷ plains_of (drop n xs)) (sym (add-one i))

pub scale_next : (x : Plain) (xs : List Plain) (all : List Plain) (s w f : ℕ) → all ≡ x ∷ xs → f ≡ factorial (entry_count x) → s / factorials (counts all) ≡ w → degrees all ≤ 4 → s ≤ 24 →
    (s / f / factorials (counts xs) ≡ w) × (s / f ≤ 24) × (degrees xs ≤ 4)
scale_next x xs all s w f e p q l m =
    let low = subst (λ ts. degrees ts ≤ 4) e l in
    (div-div-eq-div-mul s f (factorials (counts xs)) ∙ (λ i. s / (p i * factorials (counts xs))) ∙ ap (λ ts. s / factorials (counts ts)) (sym e) ∙ q, smaller s f m, omega (arith, low))
  where
    smaller : (s f : ℕ) → s ≤ 24 → s / f ≤ 24
    smaller s f m = let less = div-le_self s f in omega (arith, less, m)

-- the rest of indices behind the first of them
pub few_led : (n : ℕ) (x : Plain) (rest all : List Plain) (fs : List (ℕ × ℤ)) (ps found : Powers) → all ≡ x ∷ rest → degrees all ≤ 4 → n ≡ entry_count x → fs ≡ factors n → ps ≡ expansion (counts rest) →
    found ≡ flat_map (led ps) fs → All IsFew found
few_led n x rest all fs ps found e l q f p g =
    subst (All IsFew) (sym (g ∙ (λ i. flat_map (led (p i)) (f i)) ∙ ap (λ k. flat_map (led (expansion (counts rest))) (factors k)) q)) (expansion_few (x ∷ rest) (subst (λ ts. degrees ts ≤ 4) e l))

-- a list that is not empty is its first and the others
pub whole : (xs : List Index) (d : Index) → 1 ≤ length xs → xs ≡ get_or xs 0 d ∷ take (length xs - 1) (drop 1 xs)
whole [] d h = absurd (omega arith)
whole (x ∷ xs) d h = ap (λ l. x ∷ l) (sym (take_all (suc (length xs) - 1) xs (omega arith)))
