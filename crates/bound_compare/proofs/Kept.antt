-- The powers of a polynomial are worth what it is.
use Rattle.std.proofs.Common.{◌≡◌, ◌≤◌, ◌+◌, ◌*◌, ◌/◌, ℕ, zero, suc, ℤ, pos, negsuc, ◌-ℤ◌, ◌*ℤ◌, Bool, true, false, cond, List, [], ◌∷◌, ◌++◌, map, flat_map, length, replicate, All, refl, sym, ap, ◌∙◌, subst, arith}
use Rattle.std.specs.Ordering.{is_eq}
use Rattle.std.specs.Str.{bytes_eq}
use Rattle.std.proofs.Math.IntN.{neg_ℤ}
use Rattle.std.proofs.lemmas.Int.{ints}
use Rattle.std.proofs.lemmas.List.Elements.{All-head, All-tail}
use Rattle.std.proofs.lemmas.Slice.Eq.{bytes_eq-Decides}
use Rattle.std.proofs.lemmas.Bool.{and_parts}
use Rattle.raml_syntax.specs.Tree.{Type', Integer, Boolean, PairOf, ListOf, TreeOf, OptionOf}
use Rattle.raml_syntax.specs.Value.{Value}
use Rattle.base_poly.specs.Plain.{Plain, Unit', End, Then, many, degrees, entry_count}
use Rattle.base_poly.specs.Indices.{IsIndex, AreIndices, IsBefore, Ascends}
use Rattle.base_poly.specs.Base.{total, elements, base, bases}
use Rattle.base_poly.specs.Laws.{choose}
use Rattle.base_poly.specs.Poly.{Term}
use Rattle.base_poly.proofs.Recursion.{binomials}
use Rattle.base_poly.proofs.Sums.{total_joined, total_map}
use Rattle.poly_point.specs.Point.{worth}
use Rattle.bound_compare.specs.Laws.{PowersKeepWorth}
use Rattle.bound_compare.specs.Order.{tied_exponents}
use Rattle.bound_compare.specs.Powers.{Powers, is_scalar, is_flat, are_flat, counts, factorial, factorials, brings, above, below, positive, negative, exponent_order, listed_at, ArePowers, monomial, powers_worth, element_counts}
use Rattle.bound_compare.specs.Steps.{expansion}
use Rattle.bound_compare.proofs.Counts.{counts_low, division_is_exact}
use Rattle.bound_compare.proofs.Expanded.{at_sum, expanded, above_scaled, below_scaled, times_zero}
use Rattle.bound_compare.proofs.Made.{power_halves}
use Rattle.bound_compare.proofs.Valued.{weighed, fallen, expansion_worth}
use Rattle.bound_compare.proofs.Weights.{Entries, sum_at, weight, same_sums}

-- one sign of the numbers
abbrev side : (ℤ → ℕ) → Powers → Entries
side g ps = map (λ p. (p.0, g p.1)) ps

side_at : (g : ℤ → ℕ) (es : List ℕ) (ps : Powers) → sum_at es (side g ps) ≡ at_sum g es ps
side_at g es ps = total_map (λ p. cond (bytes_eq es p.0) p.1 0) (λ p. (p.0, g p.1)) ps

side_weight : (g : ℤ → ℕ) (ns : List ℕ) (ps : Powers) → weight (monomial ns) (side g ps) ≡ weighed g ns ps
side_weight g ns ps = total_map (λ p. p.1 * monomial ns p.0) (λ p. (p.0, g p.1)) ps

-- what a term's expansion brings, with its number

abbrev term_powers : Term → Powers
term_powers t = map (λ p. (p.0, pos t.1 *ℤ (pos (24 / factorials (counts t.0)) *ℤ p.1))) (expansion (counts t.0))

term_at_sum : (g : ℤ → ℕ) → g (pos 0) ≡ 0 → (es : List ℕ) (t : Term) → degrees t.0 ≤ 4 → at_sum g es (term_powers t) ≡ g (brings es t)
term_at_sum g z es t h =
    let s = 24 / factorials (counts t.0) in
    total_map (λ p. cond (bytes_eq es p.0) (g p.1) 0) (λ p. (p.0, pos t.1 *ℤ (pos s *ℤ p.1))) (expansion (counts t.0))
    ∙ expanded (λ x. g (pos t.1 *ℤ (pos s *ℤ x))) (ap (λ x. g (pos t.1 *ℤ x)) (times_zero (pos s)) ∙ ap g (times_zero (pos t.1)) ∙ z) (counts t.0) es (counts_low t.0 h)

abbrev IsLowTerm : Term → Type 0
IsLowTerm t = degrees t.0 ≤ 4

terms_at_sum : (g : ℤ → ℕ) → g (pos 0) ≡ 0 → (es : List ℕ) (ts : List Term) → All IsLowTerm ts → at_sum g es (flat_map term_powers ts) ≡ total (λ t. g (brings es t)) ts
terms_at_sum g z es [] h = refl
terms_at_sum g z es (t ∷ ts) h =
    total_joined (λ p. cond (bytes_eq es p.0) (g p.1) 0) (term_powers t) (flat_map term_powers ts)
    ∙ (λ i. term_at_sum g z es t (All-head IsLowTerm t ts h) i + terms_at_sum g z es ts (All-tail IsLowTerm t ts h) i)

-- the number at exponents is the one that is listed

none_listed : (g : ℤ → ℕ) (k : List ℕ) (ps : Powers) → IsBefore exponent_order k (map (λ p. p.0) ps) → at_sum g k ps ≡ 0
none_listed g k [] h = refl
none_listed g k (p ∷ ps) h = λ i. cond ((tied_exponents k p.0 ∙ ap is_eq h.0) i) (g p.1) 0 + none_listed g k ps h.1 i

listed_sum : (g : ℤ → ℕ) → g (pos 0) ≡ 0 → (es : List ℕ) (ps : Powers) → Ascends exponent_order (map (λ p. p.0) ps) → at_sum g es ps ≡ g (listed_at es ps)
listed_sum g z es [] h = sym z
listed_sum g z es (p ∷ ps) h = by (listed_sum g z es ps h.1) (bytes_eq es p.0) refl
  where
    by : at_sum g es ps ≡ g (listed_at es ps) → (b : Bool) → bytes_eq es p.0 ≡ b → cond b (g p.1) 0 + at_sum g es ps ≡ g (cond b p.1 (listed_at es ps))
    by more true e =
        let none = subst (λ k. at_sum g k ps ≡ 0) (sym ((bytes_eq-Decides es p.0).0 e)) (none_listed g p.0 ps h.0) in
        omega (arith, none)
    by more false e = omega (arith, more)

-- both signs balance at all exponents, and so they do as they are worth

balanced : (z : ℤ) (p n : ℕ) → z ≡ pos p -ℤ pos n → above z + n ≡ below z + p
balanced (pos k) p n e = omega (arith, ints, e)
balanced (negsuc k) p n e = omega (arith, ints, e)

-- what is worth in all

worth_halves : (ns : List ℕ) (ps : Powers) → powers_worth ns ps ≡ pos (weighed above ns ps) -ℤ pos (weighed below ns ps)
worth_halves ns [] = refl
worth_halves ns (p ∷ ps) =
    let one = half p.1 (monomial ns p.0) in let more = worth_halves ns ps in omega (arith, ints, one, more)
  where
    half : (x : ℤ) (m : ℕ) → x *ℤ pos m ≡ pos (above x * m) -ℤ pos (below x * m)
    half (pos n) m = omega (arith, ints)
    half (negsuc n) m = minus (suc n * m)
      where
        minus : (k : ℕ) → neg_ℤ (pos k) ≡ pos (0 * m) -ℤ pos k
        minus zero = omega (arith, ints)
        minus (suc k) = omega (arith, ints)

scaled_weight : (g : ℤ → ℕ) (scales : (q : ℕ) (x : ℤ) → g (pos q *ℤ x) ≡ q * g x) (ns : List ℕ) (q s : ℕ) (ps : Powers) →
    weighed g ns (map (λ p. (p.0, pos q *ℤ (pos s *ℤ p.1))) ps) ≡ q * (s * weighed g ns ps)
scaled_weight g scales ns q s [] = omega arith
scaled_weight g scales ns q s (p ∷ ps) =
    (λ i. (scales q (pos s *ℤ p.1) ∙ ap (λ n. q * n) (scales s p.1)) i * monomial ns p.0 + scaled_weight g scales ns q s ps i)
    ∙ ring q s (g p.1) (monomial ns p.0) (weighed g ns ps)
  where
    ring : (q s a m w : ℕ) → q * (s * a) * m + q * (s * w) ≡ q * (s * (a * m + w))
    ring q s a m w = grind arith

-- of a flat type an index has entries that count 1 each

no : {A : Type 0} → false ≡ true → A
no e = absurd (apart e)
  where
    apart : false ≡ true → ⊥
    apart q = cc

unit_of : (A : Type') (i : Plain) → is_scalar A ≡ true → IsIndex i A → i ≡ Unit'
unit_of Integer Unit' f h = refl
unit_of Integer i f h = absurd h
unit_of Boolean Unit' f h = refl
unit_of Boolean i f h = absurd h
unit_of (PairOf A B) i f h = no f
unit_of (ListOf A) i f h = no f
unit_of (TreeOf A) i f h = no f
unit_of (OptionOf A) i f h = no f

pub list_units : (A : Type') (r : Plain) → is_scalar A ≡ true → IsIndex r (ListOf A) → r ≡ many (replicate (entry_count r) Unit')
list_units A End f h = refl
list_units A (Then i r) f h = let one = unit_of A i f h.0 in let more = list_units A r f h.1 in λ n. Then (one n) (more n)
list_units A r f h = absurd h

tree_units : (A : Type') (r : Plain) → is_scalar A ≡ true → IsIndex r (TreeOf A) → r ≡ many (replicate (entry_count r) Unit')
tree_units A End f h = refl
tree_units A (Then i r) f h = let one = unit_of A i f h.0 in let more = tree_units A r f h.1 in λ n. Then (one n) (more n)
tree_units A r f h = absurd h

flat_base : (A : Type') (i : Plain) (v : Value) → is_flat A ≡ true → IsIndex i A → base i v ≡ choose (length (elements v)) (entry_count i)
flat_base Integer Unit' v f h = refl
flat_base Integer i v f h = absurd h
flat_base Boolean Unit' v f h = refl
flat_base Boolean i v f h = absurd h
flat_base (PairOf A B) i v f h = no f
flat_base (ListOf A) i v f h = ap (λ r. base r v) (list_units A i f h) ∙ binomials (entry_count i) v
flat_base (TreeOf A) i v f h = ap (λ r. base r v) (tree_units A i f h) ∙ binomials (entry_count i) v
flat_base (OptionOf A) i v f h = no f

flat_fallen : (As : List Type') (t : List Plain) (vs : List Value) → are_flat As ≡ true → AreIndices t As → length vs ≡ length As → fallen (element_counts vs) (counts t) ≡ factorials (counts t) * bases t vs
flat_fallen [] [] [] f h l = refl
flat_fallen [] [] (v ∷ vs) f h l = absurd (omega (arith, l))
flat_fallen [] (i ∷ t) vs f h l = absurd h
flat_fallen (A ∷ As) [] vs f h l = absurd h
flat_fallen (A ∷ As) (i ∷ t) [] f h l = absurd (omega (arith, l))
flat_fallen (A ∷ As) (i ∷ t) (v ∷ vs) f h l =
    let flat = and_parts (is_flat A) (are_flat As) f in
    let one = flat_base A i v flat.0 h.0 in
    let more = flat_fallen As t vs flat.1 h.1 (omega (arith, l)) in
    (λ n. factorial (entry_count i) * sym one n * more n) ∙ ring (factorial (entry_count i)) (base i v) (factorials (counts t)) (bases t vs)
  where
    ring : (k b f m : ℕ) → k * b * (f * m) ≡ k * f * (b * m)
    ring k b f m = grind arith

as_many : (As : List Type') (t : List Plain) (vs : List Value) → AreIndices t As → length vs ≡ length As → length (element_counts vs) ≡ length (counts t)
as_many [] [] [] h l = refl
as_many [] [] (v ∷ vs) h l = absurd (omega (arith, l))
as_many [] (i ∷ t) vs h l = absurd h
as_many (A ∷ As) [] vs h l = absurd h
as_many (A ∷ As) (i ∷ t) [] h l = absurd (omega (arith, l))
as_many (A ∷ As) (i ∷ t) (v ∷ vs) h l = let more = as_many As t vs h.1 (omega (arith, l)) in omega (arith, more)

module _ (As : List Type') (flat : are_flat As ≡ true) (vs : List Value) (len : length vs ≡ length As) where
  abbrev ns : List ℕ
  ns = element_counts vs

  abbrev IsOwn : Term → Type 0
  IsOwn t = AreIndices t.0 As

  term_worth : (t : Term) → AreIndices t.0 As → degrees t.0 ≤ 4 → weighed above ns (term_powers t) ≡ weighed below ns (term_powers t) + 24 * (t.1 * bases t.0 vs)
  term_worth t own low =
      let s = 24 / factorials (counts t.0) in
      let ks = counts t.0 in
      scaled_weight above above_scaled ns t.1 s (expansion ks)
      ∙ step t.1 s (factorials ks) (bases t.0 vs) (weighed above ns (expansion ks)) (weighed below ns (expansion ks))
      (expansion_worth ns ks (as_many As t.0 vs own len) (counts_low t.0 low) ∙ ap (λ n. weighed below ns (expansion ks) + n) (flat_fallen As t.0 vs flat own len))
      (division_is_exact t.0 low)
      ∙ ap (λ n. n + 24 * (t.1 * bases t.0 vs)) (sym (scaled_weight below below_scaled ns t.1 s (expansion ks)))
    where
      step : (q s f b u d : ℕ) → u ≡ d + f * b → f * s ≡ 24 → q * (s * u) ≡ q * (s * d) + 24 * (q * b)
      step q s f b u d e g = ap (λ n. q * (s * n)) e ∙ ring ∙ ap (λ n. q * (s * d) + n * (q * b)) g
        where
          ring : q * (s * (d + f * b)) ≡ q * (s * d) + f * s * (q * b)
          ring = grind arith

  terms_worth : (ts : List Term) → All IsOwn ts → All IsLowTerm ts → weighed above ns (flat_map term_powers ts) ≡ weighed below ns (flat_map term_powers ts) + 24 * worth ts vs
  terms_worth [] own low = refl
  terms_worth (t ∷ ts) own low =
      let one = term_worth t (All-head IsOwn t ts own) (All-head IsLowTerm t ts low) in
      let more = terms_worth ts (All-tail IsOwn t ts own) (All-tail IsLowTerm t ts low) in
      let up = total_joined (λ p. above p.1 * monomial ns p.0) (term_powers t) (flat_map term_powers ts) in
      let down = total_joined (λ p. below p.1 * monomial ns p.0) (term_powers t) (flat_map term_powers ts) in
      omega (arith, one, more, up, down)

  kept : (ts : List Term) (ps : Powers) → All IsOwn ts → All IsLowTerm ts → ArePowers ts ps → powers_worth ns ps ≡ pos (24 * worth ts vs)
  kept ts ps own low powers =
      let all = flat_map term_powers ts in
      let whole = terms_worth ts own low in
      let same = sym (joined_weight above below) ∙ same_sums (monomial ns) (side above ps ++ side below all) (side below ps ++ side above all) sums ∙ joined_weight below above in
      let halves = worth_halves ns ps in
      omega (arith, ints, whole, same, halves)
    where
      joined_weight : (f g : ℤ → ℕ) → weight (monomial ns) (side f ps ++ side g (flat_map term_powers ts)) ≡ weighed f ns ps + weighed g ns (flat_map term_powers ts)
      joined_weight f g =
          total_joined (λ p. p.1 * monomial ns p.0) (side f ps) (side g (flat_map term_powers ts))
          ∙ (λ i. side_weight f ns ps i + side_weight g ns (flat_map term_powers ts) i)

      joined_sum : (f g : ℤ → ℕ) → f (pos 0) ≡ 0 → g (pos 0) ≡ 0 → (es : List ℕ) →
          sum_at es (side f ps ++ side g (flat_map term_powers ts)) ≡ f (listed_at es ps) + total (λ t. g (brings es t)) ts
      joined_sum f g y z es =
          total_joined (λ p. cond (bytes_eq es p.0) p.1 0) (side f ps) (side g (flat_map term_powers ts))
          ∙ (λ i. (side_at f es ps ∙ listed_sum f y es ps powers.ascends) i + (side_at g es (flat_map term_powers ts) ∙ terms_at_sum g z es ts low) i)

      sums : (es : List ℕ) → sum_at es (side above ps ++ side below (flat_map term_powers ts)) ≡ sum_at es (side below ps ++ side above (flat_map term_powers ts))
      sums es =
          joined_sum above below refl refl es
          ∙ balanced (listed_at es ps) (positive es ts) (negative es ts) (powers.each es ∙ power_halves es ts)
          ∙ sym (joined_sum below above refl refl es)

pub powers_keep_worth : PowersKeepWorth
powers_keep_worth As ts ps flat own low powers vs len = kept As flat vs len ts ps own low powers
