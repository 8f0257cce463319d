-- Small systems, with their pivots.
use Rattle.std.specs.Prelude.{◌≡◌, refl, [], ◌∷◌, pos, neg_ℤ}
use Rattle.linear_rows.specs.Systems.{LinearSystem}
use Rattle.simplex_spec.specs.Tableaux.{Tableau, opening, pivot, solution, dual, ray, right, slacks, compared}
use Rattle.simplex_spec.specs.Refusals.{IsCompared}

-- one unknown of weight 1, which is at least 3
abbrev pub at_least_three : LinearSystem
at_least_three = record { unknowns = 1; rows = record { terms = (0, pos 1) ∷ []; right = pos 3 } ∷ []; weights = pos 1 ∷ [] }

-- one unknown, and the row that 0 is at least 1
abbrev pub never : LinearSystem
never = record { unknowns = 1; rows = record { terms = []; right = pos 1 } ∷ []; weights = pos 0 ∷ [] }

-- two unknowns of weights 2 and 3: 2 x + y is at least 4, and x + 3 y at least 6
abbrev pub two_rows : LinearSystem
two_rows = record {
  unknowns = 2;
  rows =
      record { terms = (0, pos 2) ∷ (1, pos 1) ∷ []; right = pos 4 } ∷ record { terms = (0, pos 1) ∷ (1, pos 3) ∷ []; right = pos 6 } ∷ [];
  weights = pos 2 ∷ pos 3 ∷ [];
}

-- its tableau after a pivot in each row
abbrev pub two_pivots : Tableau
two_pivots = pivot 1 1 (pivot 0 0 (opening two_rows))

-- two unknowns of weight 1, whose sum is at least 1
abbrev pub one_sum : LinearSystem
one_sum = record { unknowns = 2; rows = record { terms = (0, pos 1) ∷ (1, pos 1) ∷ []; right = pos 1 } ∷ []; weights = pos 1 ∷ pos 1 ∷ [] }

-- Of the two rows that bound column 0 the right sides find the least, row 0, so that no quotient is looked at
-- in the slacks. Of one_sum they leave both rows, and the first slack finds row 1: no second one is looked at
pub record Searches : Type 0 where
  pub right_side : IsCompared (compared two_rows) (opening two_rows) 0 0 4
  pub decided : IsCompared (compared two_rows) (opening two_rows) 0 0 2 → ⊥
  pub lost : IsCompared (compared two_rows) (opening two_rows) 0 1 2 → ⊥
  pub tied : IsCompared (compared one_sum) (opening one_sum) 0 0 1
  pub found : IsCompared (compared one_sum) (opening one_sum) 0 1 2 → ⊥

pub record Examples : Type 0 where
  pub opened : opening at_least_three
      ≡ record { rows = (pos 1 ∷ pos 1 ∷ pos 1 ∷ []) ∷ []; gains = pos 3 ∷ pos 0 ∷ pos 0 ∷ []; over = pos 1; basis = 1 ∷ [] }
  pub three : solution at_least_three (pivot 0 0 (opening at_least_three)) ≡ pos 3 ∷ []
  pub one : dual at_least_three (pivot 0 0 (opening at_least_three)) ≡ pos 1 ∷ []
  pub refuting : ray never 0 (opening never) ≡ pos 1 ∷ []
  pub columns : (right two_rows ≡ 4) × (slacks two_rows ≡ 2 ∷ 3 ∷ [])
  pub first_pivot : pivot 0 0 (opening two_rows) ≡ record {
    rows = (pos 2 ∷ pos 1 ∷ pos 1 ∷ pos 0 ∷ pos 2 ∷ []) ∷ (pos 0 ∷ pos 5 ∷ neg_ℤ (pos 1) ∷ pos 2 ∷ pos 4 ∷ []) ∷ [];
    gains = pos 0 ∷ pos 8 ∷ neg_ℤ (pos 4) ∷ pos 0 ∷ neg_ℤ (pos 8) ∷ [];
    over = pos 2;
    basis = 0 ∷ 3 ∷ [];
  }
  pub fifths : two_pivots.over ≡ pos 10
  pub least : solution two_rows two_pivots ≡ pos 12 ∷ pos 16 ∷ []
  pub proof : dual two_rows two_pivots ≡ pos 6 ∷ pos 8 ∷ []
  pub based : two_pivots.basis ≡ 0 ∷ 1 ∷ []

pub examples : Examples
examples =
    record {
      opened = refl;
      three = refl;
      one = refl;
      refuting = refl;
      columns =
          (refl, refl);
      first_pivot = refl;
      fifths = refl;
      least = refl;
      proof = refl;
      based = refl;
    }
