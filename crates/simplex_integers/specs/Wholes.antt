-- Whole numbers over the least denominator that serves.
use Rattle.std.specs.Prelude.{◌≤◌, ◌<◌, ◌^◌, ℕ, suc, ℤ, pos, List, map, take, length, slice_index_or}
use Rattle.linear_rows.specs.Laws.{InProportion}

-- over t the whole numbers xs are what the numbers ns are over d
pub record AreWholes (d : ℤ) (ns : List ℤ) (t : ℕ) (xs : List ℕ) : Type 0 where
  pub positive : 0 < t
  pub over : InProportion d (pos t) ns (map pos xs)

-- and no lesser number serves
pub record AreLeastWholes (d : ℤ) (ns : List ℤ) (t : ℕ) (xs : List ℕ) : Type 0 where
  pub are : AreWholes d ns t xs
  pub least : (u : ℕ) (zs : List ℕ) → AreWholes d ns u zs → t ≤ u

-- natural numbers below this one are of 128 bits
abbrev pub most : ℕ
most = 2 ^ 127

-- Of the numbers ns over d, the least denominator that serves for those up to an entry is too great, and for no fewer;
-- or over the least denominator of all the entry is the first that is too great.
pub data ScaleLeaves (d : ℤ) (ns : List ℤ) (entry : ℕ) : Type 0 where
  InDenominator : entry < length ns → (t u : ℕ) (xs zs : List ℕ) →
      AreLeastWholes d (take (suc entry) ns) t xs → most ≤ t → AreLeastWholes d (take entry ns) u zs → u < most → ScaleLeaves d ns entry
  InNumber : (t : ℕ) (xs : List ℕ) → AreLeastWholes d ns t xs → t < most →
      most ≤ slice_index_or xs entry 0 → ((i : ℕ) → i < entry → slice_index_or xs i 0 < most) → ScaleLeaves d ns entry
