-- The least common denominator of fractions, and their numbers over it.
use Rattle.std.specs.Prelude.{◌≤◌, ◌<◌, ◌/◌, ◌*◌, ℕ, suc, unsigned_abs, List, [], ◌∷◌, map, take, length, slice_index_or}
use Prim.Native.Nat.{◌∣◌}
use Rattle.frac128.specs.declared.Frac.{Frac}
use Rattle.frac128.specs.Values.{numerator, denominator}
use Rattle.simplex_integers.specs.Wholes.{most}

abbrev pub EachDivides : List ℕ → ℕ → Type 0
EachDivides [] m = Unit {0}
EachDivides (n ∷ ns) m = (n ∣ m) × EachDivides ns m

-- each divides l, and l divides whatever each divides
pub record IsLcmOf (ns : List ℕ) (l : ℕ) : Type 0 where
  pub positive : 0 < l
  pub each : EachDivides ns l
  pub least : (m : ℕ) → EachDivides ns m → l ∣ m

abbrev pub denominators : List Frac → List ℕ
denominators fs = map denominator fs

-- the least common multiple of the denominators, which is of 128 bits
pub record IsDenominator (ns : List ℕ) (l : ℕ) : Type 0 where
  pub is : IsLcmOf ns l
  pub fits : l < most

-- up to this entry it is too great, and before this entry it was not
pub record DenominatorLeaves (ns : List ℕ) (entry : ℕ) : Type 0 where
  pub inside : entry < length ns
  pub before : ℕ
  pub is : IsDenominator (take entry ns) before
  pub leaves : (m : ℕ) → IsLcmOf (take (suc entry) ns) m → most ≤ m

-- the size of a fraction over a multiple of its denominator
abbrev pub over : ℕ → Frac → ℕ
over l f = (l / denominator f) * unsigned_abs (numerator f)

abbrev pub all_over : ℕ → List Frac → List ℕ
all_over l fs = map (over l) fs

-- the first entry whose number is too great
pub record NumberLeaves (l : ℕ) (fs : List Frac) (entry : ℕ) : Type 0 where
  pub inside : entry < length fs
  pub leaves : most ≤ slice_index_or (all_over l fs) entry 0
  pub before : (i : ℕ) → i < entry → slice_index_or (all_over l fs) i 0 < most
