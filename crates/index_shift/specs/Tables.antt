-- Tables of how many tuples there are.
use Rattle.std.specs.Prelude.{◌≡◌, ◌≤◌, ℕ, zero, suc, ◌+◌, ◌-◌, nat_eq, nat_lt, cond, List, [], ◌∷◌, map, slice_index_or}
use Rattle.raml_syntax.specs.Tree.{Type'}
use Rattle.base_poly.specs.Plain.{degrees}
use Rattle.base_poly.specs.Indices.{tuples_up_to}
use Rattle.base_poly.specs.Base.{total}
use Rattle.index_shift.specs.Lift.{Counts}

-- how often the degree stands in the list
abbrev pub how_many : ℕ → List ℕ → ℕ
how_many r [] = 0
how_many r (g ∷ gs) = cond (nat_eq g r) (suc (how_many r gs)) (how_many r gs)

-- the number for what is left of h behind p
abbrev pub fits : (ℕ → ℕ) → ℕ → ℕ → ℕ
fits n h p = cond (nat_lt h p) 0 (n (h - p))

-- for each of the numbers the sum of what is before it, from a start on
abbrev pub sums : (ℕ → ℕ) → ℕ → List ℕ → List ℕ
sums f s [] = []
sums f s (p ∷ ps) = s ∷ sums f (s + f p) ps

-- f of n numbers, from one on
abbrev pub listed : {X : Type 0} → (ℕ → X) → ℕ → ℕ → List X
listed f from zero = []
listed f from (suc n) = f from ∷ listed f (1 + from) n

-- how many tuples have a degree below, where n tells how many may follow one of these degrees
abbrev pub lows : (ℕ → ℕ) → List ℕ → ℕ → ℕ
lows n xs zero = 0
lows n xs (suc g) = lows n xs g + total (fits n g) xs

-- The tables of three lists of degrees: before the place, of the new types, and behind the place.
pub record AreTables (xs es bs : List ℕ) (d : ℕ) (c : Counts) : Type 0 where
  -- how many tuples of a degree the new types have together with those behind
  pub inner : ℕ → ℕ
  pub is_before : c.before ≡ xs
  pub is_after : (r : ℕ) → r ≤ d → c.after r ≡ how_many r bs
  pub is_inner : (g : ℕ) → g ≤ d → inner g ≡ total (fits c.after g) es
  pub is_second : (g m : ℕ) → g ≤ d → c.second g m ≡ slice_index_or (sums (fits c.after g) 0 es) m 0
  pub is_first : (h k : ℕ) → h ≤ d → c.first h k ≡ slice_index_or (sums (fits inner h) (lows inner xs h) xs) k 0

-- They are the degrees of the tuples of three contexts.
pub record AreDegrees (As Ts Bs : List Type') (d : ℕ) (xs es bs : List ℕ) : Type 0 where
  pub front : xs ≡ map degrees (tuples_up_to As d)
  pub middle : es ≡ map degrees (tuples_up_to Ts d)
  pub back : bs ≡ map degrees (tuples_up_to Bs d)
