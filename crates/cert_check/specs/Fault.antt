-- The faults of certificates, and tests one after the other.
use Rattle.std.specs.Prelude.{◌≡◌, ◌⊎◌, ℕ, List, Option}
use Rattle.cost_free.specs.Task.{Task}

-- Shape: a block is none of the schedule, or a list, a position or a number is out of place. Fails: a condition of the
-- rules is not met. Leaves: a total of it leaves 127 bits. A block is told by its number, and a condition by its path
-- and its index. TooLarge: a context or a type has too many indices.
pub data Fault : Type 0 where
  Shape : ℕ → Fault
  Fails : ℕ → List ℕ → ℕ → Fault
  Leaves : ℕ → List ℕ → ℕ → Fault
  TooLarge : Task → Fault

-- One test before others: where this does not hold this fault is found, and otherwise what the others claim.
abbrev pub Unless : Type 0 → Option Fault → Option Fault → Type 0 → Type 0
Unless good fault found others = (good × others) ⊎ ((good → ⊥) × (found ≡ fault))
