-- Sizes of which some are open, and at which numbers in their places a bound is kept.
use Rattle.std.specs.Prelude.{◌≡◌, ◌≤◌, ◌<◌, ◌↔◌, ◌+◌, ◌^◌, ℕ, nat_le, Bool, true, false, Option, unwrap_or, List, map}
use Rattle.base_poly.specs.declared.tuple.Poly.{Poly}
use Rattle.explain_sizes.specs.Sizes as s
use Rattle.explain_sizes.specs.Counts.{whole_at}
use Rattle.explain_sizes.specs.declared.within.Within.{Within}
use Rattle.explain_sizes.specs.declared.within.Within.TheVariants.{Any, UpTo, Never}

-- As sizes, but how many elements a list or a tree has may be left open.
pub data OpenSizes : Type 0 where
  NoSize : OpenSizes
  Parts : OpenSizes → OpenSizes → OpenSizes
  Content : OpenSizes → OpenSizes
  Elements : Option ℕ → OpenSizes → OpenSizes

-- the sizes with this number at each open place
abbrev pub filled : ℕ → OpenSizes → s.Sizes
filled n NoSize = s.NoSize
filled n (Parts o p) = s.Parts (filled n o) (filled n p)
filled n (Content o) = s.Content (filled n o)
filled n (Elements count o) = s.Elements (unwrap_or count n) (filled n o)

abbrev pub all_filled : ℕ → List OpenSizes → List s.Sizes
all_filled n os = map (filled n) os

-- the whole part of the polynomial's value is at most `most` with this number at each open place
abbrev pub is_kept : Poly → List OpenSizes → ℕ → ℕ → Bool
is_kept p os most n = nat_le (whole_at p (all_filled n os)) most

-- At which numbers it is kept: at each of at most ten digits, at exactly those up to one, or at none.
abbrev pub KeepsWithin : Poly → List OpenSizes → ℕ → Within → Type 0
KeepsWithin p os most Any = (n : ℕ) → n < 10 ^ 10 → is_kept p os most n ≡ true
KeepsWithin p os most (UpTo greatest) = (greatest + 1 < 10 ^ 10) × ((n : ℕ) → (is_kept p os most n ≡ true) ↔ (n ≤ greatest))
KeepsWithin p os most Never = (n : ℕ) → is_kept p os most n ≡ false
