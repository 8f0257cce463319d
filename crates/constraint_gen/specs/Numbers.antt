-- The numbers of a solution.
use Rattle.std.specs.Prelude.{◌≤◌, ℕ, ℤ, pos, unsigned_abs, nat_eq, cond, List, [], ◌∷◌, length, map}
use Rattle.raml_num.specs.Sums.{NoneNegative}
use Rattle.annot_types.specs.Certificate.{Entries}
use Rattle.rules_spec.specs.Told.{number_in}

-- no more than there may be unknowns, and none of them negative
pub record AreNumbers (solution : List ℤ) : Type 0 where
  pub few : length solution ≤ 2000
  pub natural : NoneNegative solution

abbrev pub numbers : List ℤ → ℕ → ℕ
numbers solution u = number_in (map unsigned_abs solution) u

-- an entry at a position, unless its number is 0
abbrev pub entry : ℕ → ℕ → Entries
entry k n = cond (nat_eq n 0) [] ((k, pos n) ∷ [])
