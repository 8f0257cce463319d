-- Rules of the entering column.
use Rattle.std.specs.Prelude.{ℕ, ◌<◌, List, length, slice_index_or, pos, ◌<ℤ◌, ◌≤ℤ◌, Option, Some, None}
use Rattle.std.specs.Fn.{Shared, FnReturnsAt}
use Rattle.std.specs.Borrow.{Bor}
use Rattle.frac128.specs.declared.Frac.{Frac}
use Rattle.frac128.specs.Values.{numerator}
use Rattle.frac128.specs.Nought.{nought}

-- for every list of gains the rule answers the place of a positive one, and none only where there is none
pub record Chooses (answers : List Frac → Option ℕ → Type 0) : Type 0 where
  pub some : (gains : List Frac) (c : ℕ) → answers gains (Some c) → (c < length gains)
      × (pos 0 <ℤ numerator (slice_index_or gains c nought))
  pub none : (gains : List Frac) → answers gains None → (c : ℕ) → c < length gains → numerator (slice_index_or gains c nought) ≤ℤ pos 0

-- the rule that a chooser keeps chooses so
abbrev pub IsChooser : {F : Type 0} → Shared F (Bor (List Frac) × Unit {0}) (Option ℕ) → F → Type 0
IsChooser g rule = Chooses (FnReturnsAt g rule)
