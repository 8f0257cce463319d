-- The first condition that fails, or whose totals leave the range.
use Rattle.std.specs.Prelude.{ℕ, ◌^◌, cond, nat_lt, nat_le, ◌||◌, List, [], ◌∷◌, Option, None, Some}
use Rattle.rules_spec.specs.Numbers.{Condition}
use Rattle.rules_spec.specs.Kinds.{Amount, total_left, total_right}

-- a condition, by its path and its index: a total leaves 127 bits, or it is not met
pub data Fault : Type 0 where
  Leaves : List ℕ → ℕ → Fault
  Fails : List ℕ → ℕ → Fault

-- the least number that is no number of 127 bits
abbrev pub too_great : ℕ
too_great = 2 ^ 127

-- totals are tried before they are compared
abbrev pub fault_at : Condition Amount → Option Fault
fault_at c =
    cond (nat_le too_great (total_left c) || nat_le too_great (total_right c)) (Some (Leaves c.path c.index))
    (cond (nat_lt (total_left c) (total_right c)) (Some (Fails c.path c.index)) None)

-- the first of two
abbrev pub or_fault : Option Fault → Option Fault → Option Fault
or_fault None later = later
or_fault (Some fault) later = Some fault

abbrev pub first_fault : List (Condition Amount) → Option Fault
first_fault [] = None
first_fault (c ∷ cs) = or_fault (fault_at c) (first_fault cs)
