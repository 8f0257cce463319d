-- The least of the functions that a group waits for, as they are met call by call.
use Rattle.std.specs.Prelude.{ℕ, nat_lt, Bool, cond, not, ◌&&◌, List, [], ◌∷◌, take, Option, Some, None}
use Rattle.cost_free.specs.Blocked.{in_any, has_bound, row}
use Rattle.cost_free.specs.Task.{Meter, Outcome}

-- it is in an earlier group, and has no bound
abbrev pub is_unpaid : List (List ℕ) → ℕ → Meter → List Outcome → ℕ → Bool
is_unpaid groups group meter done f = in_any f (take group groups) && not (has_bound groups meter done f)

-- it is less than the least so far, or, where there is none, than so many
abbrev pub is_less : ℕ → Option ℕ → ℕ → Bool
is_less f (Some least) count = nat_lt f least
is_less f None count = nat_lt f count

-- Of numbers below so many, those that pass the test.
module _ (test : ℕ → Bool) (count : ℕ) where
  -- the least of these and the least so far
  abbrev pub least_in : List ℕ → Option ℕ → Option ℕ
  least_in [] least = least
  least_in (f ∷ fs) least = least_in fs (cond (is_less f least count && test f) (Some f) least)

  -- that of all rows
  abbrev pub least_called : List (List ℕ) → List ℕ → Option ℕ → Option ℕ
  least_called calls [] least = least
  least_called calls (g ∷ gs) least = least_called calls gs (least_in (row calls g) least)
