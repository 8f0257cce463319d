-- What is true of a task that waits.
use Rattle.std.specs.Prelude.{◌≡◌, ◌<◌, ℕ, true, false, List, length, None, Some}
use Rattle.cost_free.specs.declared.task.Meter.{Meter}
use Rattle.cost_free.specs.Task.{Outcome, With}
use Rattle.cost_free.specs.Blocked.{blocks, blocked}

-- the least function that is in the way of the meter's task of the group
pub record IsLeastBlocker (groups calls : List (List ℕ)) (group : ℕ) (meter : Meter) (done : List Outcome) (f : ℕ) : Type 0 where
  pub is_function : f < length calls
  pub in_the_way : blocks groups calls group meter done f ≡ true
  pub least : (g : ℕ) → g < f → blocks groups calls group meter done g ≡ false

-- A task with cost waits for the least function in its way, and where it waits for none there is none.
pub record BlockersAreLeast : Type 0 where
  pub some : (groups calls : List (List ℕ)) (group : ℕ) (meter : Meter) (done : List Outcome) (f : ℕ) →
      blocked groups calls (record { group = group; kind = With meter }) done ≡ Some f →
      IsLeastBlocker groups calls group meter done f
  pub none : (groups calls : List (List ℕ)) (group : ℕ) (meter : Meter) (done : List Outcome) (f : ℕ) →
      blocked groups calls (record { group = group; kind = With meter }) done ≡ None →
      f < length calls →
      blocks groups calls group meter done f ≡ false
