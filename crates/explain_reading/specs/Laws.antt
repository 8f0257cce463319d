-- What the legend leaves out does not occur.
use Rattle.std.specs.Prelude.{◌≡◌, ℕ, Option, List}
use Rattle.bound_compare.specs.Powers.{Powers}
use Rattle.explain_algebra.specs.Algebra.{algebra_text}
use Rattle.explain_reading.specs.Reading.{used_names}

-- The sum is the same text where only the names of the legend are told.
abbrev pub LegendSuffices : Type 0
LegendSuffices = (den : ℕ) (names : List (Option ℕ)) (ps : Powers) → algebra_text den (used_names ps names) ps ≡ algebra_text den names ps
