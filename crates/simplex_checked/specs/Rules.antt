-- Rules of the entering column, as functions of whole numbers.
use Rattle.std.specs.Prelude.{◌≡◌, ◌+◌, ◌&&◌, ℕ, ℤ, pos, ◌<ℤ◌, int_lt, Bool, cond, List, [], ◌∷◌, Option, Some, None}
use Rattle.std.specs.Int.{int_max}
use Rattle.std.specs.Ordering.{int_eq}
use Rattle.frac128.specs.declared.Frac.{Frac}
use Rattle.simplex.specs.Reading.{AreOver}

-- of the columns from c on, which have these gains, the least whose gain is so
abbrev pub least_from : (ℤ → Bool) → ℕ → List ℤ → Option ℕ
least_from is_so c [] = None
least_from is_so c (n ∷ ns) = cond (is_so n) (Some c) (least_from is_so (c + 1) ns)

-- the greatest of the gains, or 0 where none is positive
abbrev pub greatest_gain : List ℤ → ℤ
greatest_gain [] = pos 0
greatest_gain (n ∷ ns) = int_max n (greatest_gain ns)

-- the least column of positive gain
abbrev pub least_pick : List ℤ → ℤ → Option ℕ
least_pick gains over = least_from (λ gain. int_lt (pos 0) gain) 0 gains

-- where some gain is positive, the least of the columns that have the greatest gain
abbrev pub greatest_pick : List ℤ → ℤ → Option ℕ
greatest_pick gains over = least_from (λ gain. int_lt (pos 0) gain && int_eq gain (greatest_gain gains)) 0 gains

-- for all numbers that these fractions are over a positive one, the function gives this
pub record Picks (pick : List ℤ → ℤ → Option ℕ) (gains : List Frac) (picked : Option ℕ) : Type 0 where
  pub is : (ns : List ℤ) (d : ℤ) → pos 0 <ℤ d → AreOver d ns gains → pick ns d ≡ picked
