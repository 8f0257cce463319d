-- Numbers of a tableau that no fraction has, and where a pivot meets one.
use Rattle.std.specs.Prelude.{◌≡◌, ◌≢◌, ℕ, ◌^◌, List, [], ◌∷◌, ◌++◌, ℤ, pos, neg_ℤ, ◌*ℤ◌, unsigned_abs, ◌⊎◌, ◌≤◌, length}
use Rattle.raml_num.specs.Divisors.{IsLcm}
use Rattle.frac128.specs.Lowest.{InLowestTerms}
use Rattle.frac128.specs.Values.{PartsFit}
use Rattle.linear_rows.specs.Systems.{LinearSystem}
use Rattle.simplex_spec.specs.Tableaux.{Tableau, entry, compared, IsLeastRow, Exits}

-- a over b are the lowest terms of n over d, and in the range
abbrev pub IsFraction : ℤ → ℤ → ℤ → ℕ → Type 0
IsFraction n d a b = InLowestTerms (unsigned_abs a) b × (a *ℤ d ≡ n *ℤ pos b)

abbrev pub NoFraction : ℤ → ℤ → Type 0
NoFraction n d = (a : ℤ) (b : ℕ) → IsFraction n d a b → ⊥

-- both n over d and m over k are fractions, and over their least common denominator, or as its
-- numerator, their difference leaves the range
pub record DifferenceLeaves (n d m k : ℤ) : Type 0 where
  pub a : ℤ
  pub b : ℕ
  pub first : IsFraction n d a b
  pub e : ℤ
  pub f : ℕ
  pub second : IsFraction m k e f
  pub common : ℕ
  pub is_common : IsLcm b f common
  pub leaves : PartsFit a b (neg_ℤ e) f common → ⊥

-- the search for the row that exits for column e, by the columns cs, looks at row i in column c: before
-- that column row i is tied for the least, and with another row unless it is the first of them
pub record IsCompared (cs : List ℕ) (t : Tableau) (e i c : ℕ) : Type 0 where
  pub before : List ℕ
  pub after : List ℕ
  pub is_next : cs ≡ before ++ c ∷ after
  pub tied : IsLeastRow before e t i
  pub another : (before ≡ []) ⊎ ((m : ℕ) × (m ≢ i) × IsLeastRow before e t m)

-- with the entering column e, a number at (i, c) leaves the range of fractions
pub data Refused (s : LinearSystem) (t : Tableau) (e i c : ℕ) : Type 0 where
  -- its quotient by the number at (i, e), where the search for the exiting row looks at it
  InSearch : IsCompared (compared s) t e i c → NoFraction (entry t i c) (entry t i e) → Refused s t e i c
  -- that quotient in the exiting row
  InExitingRow : Exits s e t i → NoFraction (entry t i c) (entry t i e) → Refused s t e i c
  -- in another row, or in the gains, the product of the number at (i, e) and the exiting row's quotient at
  -- c, which is there
  InProduct : (l : ℕ) → Exits s e t l → l ≢ i → i ≤ length t.rows → (NoFraction (entry t l c) (entry t l e) → ⊥)
      → NoFraction (entry t i e *ℤ entry t l c) (t.over *ℤ entry t l e) → Refused s t e i c
  -- the number at (i, c) less that product
  InDifference : (l : ℕ) → Exits s e t l → l ≢ i → i ≤ length t.rows
      → DifferenceLeaves (entry t i c) t.over (entry t i e *ℤ entry t l c) (t.over *ℤ entry t l e) → Refused s t e i c

-- -2^127, the one number of 128 bits that is no fraction
abbrev pub least_number : ℤ
least_number = neg_ℤ (pos (2 ^ 127))
