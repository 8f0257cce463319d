-- Polynomials of flat functions as powers of element counts.
use Rattle.std.specs.Prelude.{◌≡◌, ◌≢◌, ◌<◌, ◌≤◌, ℕ, zero, suc, ◌*◌, ◌/◌, ◌^◌, ℤ, pos, negsuc, ◌+ℤ◌, ◌-ℤ◌, ◌*ℤ◌, Bool, true, false, not}
use Rattle.std.specs.Prelude.{cond, List, [], ◌∷◌, map, filter, replicate, sum, length, All}
use Rattle.std.specs.declared.cmp.Ordering.{Ordering}
use Rattle.std.specs.Ordering.{ordering_then, nat_cmp}
use Rattle.std.specs.Cmp.Lexicographic.{slice_cmp}
use Rattle.std.specs.List.{list_all}
use Rattle.std.specs.Str.{bytes_eq}
use Rattle.raml_syntax.specs.Tree.{Type', Integer, Boolean, ListOf, TreeOf}
use Rattle.raml_syntax.specs.Value.{Value}
use Rattle.base_poly.specs.Plain.{Plain, entry_count}
use Rattle.base_poly.specs.Indices.{Ascends, index_list}
use Rattle.base_poly.specs.Base.{total, elements}
use Rattle.base_poly.specs.Poly.{Term}

-- an integer or a truth
abbrev pub is_scalar : Type' → Bool
is_scalar Integer = true
is_scalar Boolean = true
is_scalar _ = false

-- one of these, or a list or tree of one of these
abbrev pub is_flat : Type' → Bool
is_flat (ListOf A) = is_scalar A
is_flat (TreeOf A) = is_scalar A
is_flat A = is_scalar A

-- the function with these parameter types is flat
abbrev pub are_flat : List Type' → Bool
are_flat As = list_all is_flat As

-- A polynomial in n is the coefficient of each n^e. This is the one times n - j.
abbrev pub times_less : ℕ → (ℕ → ℤ) → ℕ → ℤ
times_less j f zero = pos 0 -ℤ pos j *ℤ f zero
times_less j f (suc e) = f e -ℤ pos j *ℤ f (suc e)

-- the coefficient of n^e in the falling product n * (n - 1) * .. * (n - k + 1)
abbrev pub falling : ℕ → ℕ → ℤ
falling zero zero = pos 1
falling zero (suc e) = pos 0
falling (suc k) e = times_less k (falling k) e

-- the product of these over all parameters
abbrev pub fallings : List ℕ → List ℕ → ℤ
fallings [] [] = pos 1
fallings (k ∷ ks) (e ∷ es) = falling k e *ℤ fallings ks es
fallings _ _ = pos 0

-- 1 * 2 * .. * k
abbrev pub factorial : ℕ → ℕ
factorial zero = 1
factorial (suc k) = suc k * factorial k

abbrev pub factorials : List ℕ → ℕ
factorials [] = 1
factorials (k ∷ ks) = factorial k * factorials ks

-- the number of entries at each list or tree, 0 at other parameters
abbrev pub counts : List Plain → List ℕ
counts t = map entry_count t

-- what a term brings at exponents, over 24 * den
abbrev pub brings : List ℕ → Term → ℤ
brings es t = pos t.1 *ℤ (pos (24 / factorials (counts t.0)) *ℤ fallings (counts t.0) es)

-- the number at exponents
abbrev pub power_at : List ℕ → List Term → ℤ
power_at es [] = pos 0
power_at es (t ∷ ts) = brings es t +ℤ power_at es ts

-- by how much a number is above 0, and below
abbrev pub above : ℤ → ℕ
above (pos n) = n
above (negsuc n) = 0

abbrev pub below : ℤ → ℕ
below (pos n) = 0
below (negsuc n) = suc n

-- what the terms bring at exponents that is above 0, and what is below
abbrev pub positive : List ℕ → List Term → ℕ
positive es ts = total (λ t. above (brings es t)) ts

abbrev pub negative : List ℕ → List Term → ℕ
negative es ts = total (λ t. below (brings es t)) ts

-- 24 * den and the totals of both signs at all exponents fit signed numbers of 128 bits
pub record Fits (den : ℕ) (ts : List Term) : Type 0 where
  pub scaled : 24 * den < 2 ^ 127
  pub positive : (es : List ℕ) → positive es ts < 2 ^ 127
  pub negative : (es : List ℕ) → negative es ts ≤ 2 ^ 127

-- one of these does not
pub data Leaves (den : ℕ) (ts : List Term) : Type 0 where
  by_den : 2 ^ 127 ≤ 24 * den → Leaves den ts
  by_positive : (es : List ℕ) → 2 ^ 127 ≤ positive es ts → Leaves den ts
  by_negative : (es : List ℕ) → 2 ^ 127 < negative es ts → Leaves den ts

-- exponents are ordered by their sum, and then one by one
abbrev pub exponent_order : List ℕ → List ℕ → Ordering
exponent_order es fs = ordering_then (nat_cmp (sum es) (sum fs)) (slice_cmp nat_cmp es fs)

-- exponents, each with a number
abbrev pub Powers : Type 0
Powers = List (List ℕ × ℤ)

-- the number at the exponents, 0 where there is none
abbrev pub listed_at : List ℕ → Powers → ℤ
listed_at es [] = pos 0
listed_at es (p ∷ ps) = cond (bytes_eq es p.0) p.1 (listed_at es ps)

-- the powers of a sum of terms: no number is 0, the exponents are in order, and each has its number
pub record ArePowers (ts : List Term) (ps : Powers) : Type 0 where
  pub nonzero : All (λ p. p.1 ≢ pos 0) ps
  pub ascends : Ascends exponent_order (map (λ p. p.0) ps)
  pub each : (es : List ℕ) → listed_at es ps ≡ power_at es ts

-- the exponents of so many parameters with a sum of at most 4, in order: how many elements the tuples of as many lists pick
abbrev pub exponents_of : ℕ → List (List ℕ)
exponents_of p = map counts (index_list (replicate p (ListOf Integer)) 4)

abbrev pub is_zero : ℤ → Bool
is_zero (pos zero) = true
is_zero _ = false

-- the powers of a sum of terms in so many parameters: each of these exponents with its number, where that is not 0
abbrev pub powers_of : ℕ → List Term → Powers
powers_of p ts = filter (λ x. not (is_zero x.1)) (map (λ es. (es, power_at es ts)) (exponents_of p))

-- the product of the n_j ^ e_j
abbrev pub monomial : List ℕ → List ℕ → ℕ
monomial (n ∷ ns) (e ∷ es) = n ^ e * monomial ns es
monomial _ _ = 1

-- the sum of the numbers, each times its powers of the counts
abbrev pub powers_worth : List ℕ → Powers → ℤ
powers_worth ns [] = pos 0
powers_worth ns (p ∷ ps) = p.1 *ℤ pos (monomial ns p.0) +ℤ powers_worth ns ps

-- the number of elements of each argument
abbrev pub element_counts : List Value → List ℕ
element_counts vs = map (λ v. length (elements v)) vs
