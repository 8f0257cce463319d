-- What the private steps of `powers` make.
use Rattle.std.specs.Prelude.{ℕ, zero, suc, ◌+◌, ◌-◌, ◌<◌, ◌≤◌, ◌*◌, ◌/◌, ◌^◌, ◌==◌, min, ℤ, pos, negsuc, ◌-ℤ◌, ◌*ℤ◌, Bool, false, cond}
use Rattle.std.specs.Prelude.{◌⊎◌, List, [], ◌∷◌, map, flat_map, unsigned_abs}
use Rattle.std.specs.Str.{bytes_eq}
use Rattle.base_poly.specs.Poly.{Term}
use Rattle.bound_compare.specs.Powers.{Powers, counts, factorials, above, below}

-- the powers in a falling product of k factors, each with its coefficient
abbrev pub factors : ℕ → List (ℕ × ℤ)
factors zero = (0, pos 1) ∷ []
factors (suc zero) = (1, pos 1) ∷ []
factors (suc (suc zero)) = (1, negsuc 0) ∷ (2, pos 1) ∷ []
factors (suc (suc (suc zero))) = (1, pos 2) ∷ (2, negsuc 2) ∷ (3, pos 1) ∷ []
factors (suc (suc (suc (suc zero)))) = (1, negsuc 5) ∷ (2, pos 11) ∷ (3, negsuc 5) ∷ (4, pos 1) ∷ []
factors _ = []

-- one power before others
abbrev pub led : Powers → ℕ × ℤ → Powers
led ps f = map (λ p. (f.0 ∷ p.0, f.1 *ℤ p.1)) ps

-- a product of falling products as powers
abbrev pub expansion : List ℕ → Powers
expansion [] = ([], pos 1) ∷ []
expansion (k ∷ ks) = flat_map (led (expansion ks)) (factors k)

-- at most 2^128 - 1
abbrev pub capped : ℕ → ℕ
capped n = min n (2 ^ 128 - 1)

-- exponents with what is above 0 and what is below
abbrev pub Part : Type 0
Part = List ℕ × (ℕ × ℕ)

-- each of the powers times q * s
abbrev pub scaled : ℕ → ℕ → Powers → List Part
scaled q s ps = map (λ p. (p.0, (capped (q * (s * above p.1)), capped (q * (s * below p.1))))) ps

abbrev pub parts_of : Term → List Part
parts_of t = scaled t.1 (24 / factorials (counts t.0)) (expansion (counts t.0))

abbrev pub both : ℕ × ℕ → ℕ × ℕ → ℕ × ℕ
both c d = (capped (c.0 + d.0), capped (c.1 + d.1))

-- whether the first of them has these exponents
abbrev pub leads : List ℕ → List Part → Bool
leads es [] = false
leads es (x ∷ xs) = bytes_eq es x.0

-- neighbours of the same exponents added up, the first of them with what is carried
abbrev pub joined : ℕ × ℕ → List Part → List Part
joined c [] = []
joined c (x ∷ xs) = cond (leads x.0 xs) (joined (both c x.1) xs) ((x.0, both c x.1) ∷ joined (0, 0) xs)

-- those that are not 0 as numbers
abbrev pub numbers : List Part → Powers
numbers [] = []
numbers (g ∷ gs) = cond (g.1.0 == g.1.1) (numbers gs) ((g.0, pos g.1.0 -ℤ pos g.1.1) ∷ numbers gs)

-- each of both totals fits a signed number of 128 bits
abbrev pub AreSmall : List Part → Type 0
AreSmall [] = Unit {0}
AreSmall (g ∷ gs) = (g.1.0 < 2 ^ 127) × (g.1.1 ≤ 2 ^ 127) × AreSmall gs

-- no factor is above 24 or below -24
abbrev pub IsFew : List ℕ × ℤ → Type 0
IsFew p = unsigned_abs p.1 ≤ 24

-- one of them does not
abbrev pub HasLarge : List Part → Type 0
HasLarge [] = ⊥
HasLarge (g ∷ gs) = (2 ^ 127 ≤ g.1.0) ⊎ (2 ^ 127 < g.1.1) ⊎ HasLarge gs
