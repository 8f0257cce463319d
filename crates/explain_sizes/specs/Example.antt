-- Small cases, worked out by hand.
use Rattle.std.specs.Prelude.{◌≡◌, ℕ, zero, suc, pos, ◌/◌, None, Some, List, [], ◌∷◌}
use Rattle.raml_syntax.specs.Value.{Value, Number, Empty, Cons, Just}
use Rattle.base_poly.specs.Plain.{Plain, Unit', Pair, End, Then, OneEntry}
use Rattle.base_poly.specs.Poly.{Term}
use Rattle.explain_sizes.specs.Sizes.{Sizes, NoSize, Parts, Content, Elements, IsWithin, HasExactly, IsAtMost}
use Rattle.explain_sizes.specs.Counts.{counts, worth_at}
use Rattle.explain_sizes.specs.Open as o
use Rattle.explain_sizes.specs.Open.{OpenSizes, filled, all_filled}

-- as many entries
abbrev units : ℕ → Plain
units zero = End
units (suc n) = Then Unit' (units n)

-- a list of as many numbers, and its sizes
abbrev numbers : ℕ → Value
numbers zero = Empty
numbers (suc n) = Cons (Number (pos 0)) (numbers n)

abbrev of_numbers : ℕ → Sizes
of_numbers n = Elements n NoSize

-- 3 for each two elements and 2 for each one, which is 3/2 n^2 + 1/2 n
abbrev quicksort : List Term
quicksort = ((units 1 ∷ []), 2) ∷ ((units 2 ∷ []), 3) ∷ []

-- open many lists of 20 numbers, and 10 lists of open many numbers
abbrev open_lists : OpenSizes
open_lists = o.Elements None (o.Elements (Some 20) o.NoSize)

abbrev open_numbers : OpenSizes
open_numbers = o.Elements (Some 10) (o.Elements None o.NoSize)

pub record Examples : Type 0 where
  pub two_of_four : counts (units 2) (of_numbers 4) ≡ 6
  pub too_many : counts (units 3) (of_numbers 2) ≡ 0
  pub no_entry : counts End (of_numbers 7) ≡ 1
  pub quicksort_at_100 : worth_at quicksort (of_numbers 100 ∷ []) ≡ 15050
  pub quicksort_at_none : worth_at quicksort (of_numbers 0 ∷ []) ≡ 0
  -- of 10 lists of 20 numbers: all numbers together, and a number of one list and a later list
  pub all_numbers : counts (Then (units 1) End) (Elements 10 (of_numbers 20)) ≡ 200
  pub later : counts (Then (units 1) (Then End End)) (Elements 10 (of_numbers 20)) ≡ 900
  pub pair : counts (Pair (units 1) (units 2)) (Parts (of_numbers 3) (of_numbers 4)) ≡ 18
  pub tuple : worth_at (((units 1 ∷ units 1 ∷ []), 5) ∷ []) (of_numbers 3 ∷ of_numbers 4 ∷ []) ≡ 60
  pub option : counts (OneEntry (units 2)) (Content (of_numbers 4)) ≡ 6
  -- half of three is one
  pub whole_part : worth_at (((units 1 ∷ []), 1) ∷ []) (of_numbers 3 ∷ []) / 2 ≡ 1
  pub exactly : HasExactly (of_numbers 2) (numbers 2)
  pub within : IsWithin (Content (of_numbers 3)) (Just (numbers 2))
  pub nothing_within : IsWithin (Content (of_numbers 3)) Empty
  pub longer_is_not_within : IsWithin (of_numbers 1) (numbers 2) → ⊥
  pub none_is_not_exact : HasExactly (Content NoSize) Empty → ⊥
  pub at_most : IsAtMost (Elements 3 (of_numbers 4)) (Elements 3 (of_numbers 5))
  pub more_is_not_at_most : IsAtMost (Elements 3 (of_numbers 4)) (Elements 9 (of_numbers 3)) → ⊥
  pub outer_filled : filled 7 open_lists ≡ Elements 7 (of_numbers 20)
  pub inner_filled : filled 7 open_numbers ≡ Elements 10 (of_numbers 7)
  -- so 15000 is kept at 99 and not at 100, where it is 15050
  pub kept_at_99 : worth_at quicksort (all_filled 99 (o.Elements None o.NoSize ∷ [])) ≡ 14751
  -- the numbers of 10 lists are 200 where each has 20, and 210 where each has 21
  pub all_at_20 : worth_at (((Then (units 1) End ∷ []), 1) ∷ []) (all_filled 20 (open_numbers ∷ [])) ≡ 200
  pub all_at_21 : worth_at (((Then (units 1) End ∷ []), 1) ∷ []) (all_filled 21 (open_numbers ∷ [])) ≡ 210
